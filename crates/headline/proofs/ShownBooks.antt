-- All stations of a run show one book, of entries that both desks voted for.
use Rattle.std.proofs.Common.{◌≡◌, ℕ, Option, Some, None, option_and_then, List, [], ◌∷◌, subst, inl, inr, arith}
use Rattle.notation.specs.declared.entry.Entry.{Entry}
use Rattle.agree_core.specs.declared.messages.{DeskId.DeskId}
use Rattle.agree_core.specs.declared.messages.DeskId.TheVariants.{A, B}
use Rattle.agree_core.specs.Agreed.{AllSettled}
use Rattle.agree_core.specs.Ballots.{Ballot, Within, votes_by}
use Rattle.agree_core.specs.Boards.{BoardState}
use Rattle.agree_core.specs.Readers.{noted_of, other, ReaderWaits}
use Rattle.agree_core.proofs.FileBooks.{AllBoth}
use Rattle.agree_core.proofs.Settling.{agreed_begins, one_book, one_vote_each, places_settled, rounds_differ}
use Rattle.headline.specs.declared.{event.Station.Station, version.FileVersion.FileVersion}
use Rattle.headline.specs.Setting.{Setting}
use Rattle.headline.specs.Configurations.{Process, Configuration, board_at, node, process_disk, process_votes, all_votes}
use Rattle.headline.specs.Runs.{AtEachMoment, AtSomeMoment, Moment, Run, Shows, last_of, process_shows}
use Rattle.headline.specs.KeptVotes.{kept_by_process, NoneKeepsBoth}
use Rattle.headline.specs.Besides.{KeepsVotes, KeptSafe, StandsFast, WithinAgreed, AtEachEvent}
use Rattle.headline.specs.Headline.{ArePrefixes, ByBoth}
use Rattle.agree_core.specs.Keeping.{ShowsMore, DiskFine}
use Rattle.agree_core.proofs.Both.{both_at, both_settled, both_turned, same}
use Rattle.agree_core.proofs.Desks.{more_within}
use Rattle.headline.proofs.BoardKeeping.{board_fine_at, item_at}
use Rattle.headline.proofs.Keeping.{Fine, Grows, ProcessFine, all_justified, fine_disk, run_keeps, node_fine, step_keeps, votes_at}

module _ {Disk Why : Type 0} (s : Setting Disk Why) where
  -- both desks have a vote for each entry of a shown book
  pub shown_both : (w : Configuration Disk) (t : Station) (book : List Entry) → Fine s w → Shows w t book → AllBoth (all_votes w).a (all_votes w).b 0 book
  shown_both w (Station.Board n) book f h =
      let k = board_fine_at (all_votes w) w.boards n h.0 h.1 f.on_boards in
      subst (AllBoth (all_votes w).a (all_votes w).b 0) h.2 k.both
  shown_both w h1 book f h = grind (arith, both_turned)

  pub shown_settled : (w : Configuration Disk) (t : Station) (book : List Entry) → Fine s w → Shows w t book → AllSettled (all_votes w) 0 book
  shown_settled w t book f h = grind (arith, both_settled, all_justified, shown_both)

  pub by_both : (w : Configuration Disk) → Fine s w → ByBoth w
  by_both w h0 = grind (arith, both_at, shown_both)

  grows_on : (u v w : Configuration Disk) → Grows s u v → Grows s v w → Grows s u w
  grows_on u v w g h = (λ b i. h.0 b (g.0 b i), λ b i. h.1 b (g.1 b i))

  same_votes : (w : Configuration Disk) → Grows s w w
  same_votes w = (same (all_votes w).a, same (all_votes w).b)

  -- what holds at some moment holds of a fine configuration whose votes are among the last ones
  pub moment : (w : Configuration Disk) (ms : List (Moment Disk Why)) (P : Configuration Disk → Type 0) → Fine s w → Run s w ms → AtSomeMoment w ms P
      → (v : Configuration Disk) × Fine s v × Grows s v (last_of w ms) × P v
  moment w [] P f r h = (w, f, same_votes w, h)
  moment w (m ∷ ms) P f r (inl h) = (m.after, (step_keeps s (last_of w ms) m.event m.answer m.after (run_keeps s w ms f r.0) r.1).0, same_votes m.after, h)
  moment w (m ∷ ms) P f r (inr h) =
      let g = moment w ms P f r.0 h in
      let k = step_keeps s (last_of w ms) m.event m.answer m.after (run_keeps s w ms f r.0) r.1 in
      (g.0, g.1, grows_on g.0 (last_of w ms) m.after g.2 k.1, g.3)

  pub each_moment : (w : Configuration Disk) (ms : List (Moment Disk Why)) (P : Configuration Disk → Type 0) → ((v : Configuration Disk) → Fine s v → P v) → Fine s w → Run s w ms → AtEachMoment w ms P
  each_moment w [] P h f r = h w f
  each_moment w (m ∷ ms) P h f r = (h m.after (run_keeps s w (m ∷ ms) f r), each_moment w ms P h f r.0)

  pub one_book_shown : (w : Configuration Disk) (ms : List (Moment Disk Why)) → Fine s w → Run s w ms → ArePrefixes w ms
  one_book_shown w ms f r t u xs ys p q =
      let x = moment w ms (λ v. Shows v t xs) f r p in
      let y = moment w ms (λ v. Shows v u ys) f r q in
      one_book (all_votes (last_of w ms)) (all_justified s (last_of w ms) (run_keeps s w ms f r)) (all_votes x.0) (all_votes y.0) xs ys x.2 y.2
      (shown_settled x.0 t xs x.1 x.3) (shown_settled y.0 u ys y.1 y.3)

  pub within_agreed : (w : Configuration Disk) (ms : List (Moment Disk Why)) → Fine s w → Run s w ms → WithinAgreed w ms
  within_agreed w ms f r t xs agreed p g =
      let x = moment w ms (λ v. Shows v t xs) f r p in
      agreed_begins (all_votes x.0) (all_votes (last_of w ms)) x.2 (all_justified s (last_of w ms) (run_keeps s w ms f r)) xs agreed (shown_settled x.0 t xs x.1 x.3) g

  reader_waits : (k : BoardState) (e f : Entry) → ReaderWaits k.reader → k.reader.a ≡ Some e → k.reader.b ≡ Some f → ⊥
  reader_waits k e f w p q = grind arith

  abbrev kept_by_board : Option BoardState → DeskId → Option Entry
  kept_by_board board c = option_and_then (λ (k : BoardState). noted_of k.reader c) board

  board_waits : (w : Configuration Disk) (n : ℕ) (board : Option BoardState) (e f : Entry) → Fine s w → board_at w.boards n ≡ board
      → kept_by_board board A ≡ Some e → kept_by_board board B ≡ Some f → ⊥
  board_waits w n None e f g h p q = cc
  board_waits w n (Some k) e f g h p q = let fine = board_fine_at (all_votes w) w.boards n k h g.on_boards in reader_waits k e f fine.waits p q

  pub none_keeps_both : (w : Configuration Disk) → Fine s w → NoneKeepsBoth w
  none_keeps_both w h0 = grind (arith, board_waits, node_fine)

  image_has : (w : Configuration Disk) (d : DeskId) (o : Option (List Ballot)) → ShowsMore (votes_by (all_votes w) (other d)) (process_votes (node w d).process) o
      → (these : List Ballot) × (o ≡ Some these) × Within (votes_by (all_votes w) d) these
  image_has w d o h = (h.0, h.1, rw (votes_at s w d) (more_within (votes_by (all_votes w) (other d)) (process_votes (node w d).process) h.0 h.2))

  disk_fine : (w : Configuration Disk) (d : DeskId) → Fine s w
      → DiskFine (s.view d (node w d).version) d (votes_by (all_votes w) (other d)) (process_votes (node w d).process) (process_disk (node w d).process)
  disk_fine w d f = fine_disk s (node w d).version d (votes_by (all_votes w) (other d)) (node w d).process (node_fine s w d f)

  pub kept_safe : (w : Configuration Disk) → Fine s w → KeptSafe s w
  kept_safe w f = record {
    sent = λ n v e. grind (arith, item_at);
    images = λ d image i. image_has w d image ((disk_fine w d f).1 image i);
    reads = λ d. image_has w d ((s.view d (node w d).version).reads (process_disk (node w d).process)) (disk_fine w d f).0;
  }

  pub stands_fast : (w : Configuration Disk) → Fine s w → StandsFast s w
  stands_fast w f =
      let j = all_justified s w f in
      record { safe = kept_safe w f; votes = grind (arith, one_vote_each, rounds_differ, places_settled) }

  pub votes_kept : (w : Configuration Disk) (ms : List (Moment Disk Why)) → Fine s w → Run s w ms → AtEachEvent w ms KeepsVotes
  votes_kept w [] f r = tt
  votes_kept w (m ∷ ms) f r = (votes_kept w ms f r.0, (step_keeps s (last_of w ms) m.event m.answer m.after (run_keeps s w ms f r.0) r.1).1)
