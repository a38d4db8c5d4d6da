-- The laws of woven lives.
use Rattle.std.proofs.Common.{arith, ◌≡◌, ◌<◌, ℕ, Some, List, [], ◌∷◌, length, refl, sym, subst}
use Rattle.std.specs.List.{filter}
use Rattle.entry_log.specs.Disk.{Faults, Images}
use Rattle.vote_store.specs.View.{file_view, votes_shown}
use Rattle.agree_core.specs.declared.messages.DeskId.{DeskId}
use Rattle.agree_core.specs.declared.messages.DeskId.TheVariants.{A, B}
use Rattle.agree_core.specs.Ballots.{Ballot}
use Rattle.agree_core.specs.Desks.{DeskState}
use Rattle.agree_core.specs.FileView.{FileView}
use Rattle.agree_core.specs.Openings.{Creates}
use Rattle.headline.specs.declared.version.FileVersion.{FileVersion}
use Rattle.headline.specs.Configurations.{board_at, node, process_disk}
use Rattle.headline.specs.Match.{setting_of}
use Rattle.headline.specs.Runs.{Begins}
use Rattle.headline.proofs.ShownBooks.{stands_fast}
use Rattle.progress.proofs.BoardTrips.{same_or_other}
use Rattle.processes.specs.Happenings.{after}
use Rattle.processes.specs.Lives.{BeginsFirst}
use Rattle.processes.specs.Weaving.{WovenLivesFlow, WovenLivesHaveHeadline, is_at_board, start}
use Rattle.processes.proofs.BoardLives.{board_life}
use Rattle.processes.proofs.DeskLives.{DeskLocal, desk_life}
use Rattle.processes.proofs.FlowLaws.{flows_have_headline}
use Rattle.processes.proofs.Flowing.{fine}
use Rattle.processes.proofs.Weaving.{AllMay, weaves}

-- a desk that begins for the first time is like one just created
first : {Disk : Type 0} (view : FileView Disk) (seen : Disk → List ℕ) (innings : ℕ) (d : DeskId) (k : DeskState Disk) → BeginsFirst view seen innings d k → Creates view d k
first view seen innings d k h = grind (arith, same_or_other)

module _ {Disk : Type 0} (seen : Disk → List ℕ) (images : Disk → Images) (faults : Disk → Faults) where
  pub woven_lives_flow : WovenLivesFlow seen images faults
  woven_lives_flow seals contents game innings version boards a b hs none begin w =
      let s = setting_of contents seen images game innings in
      let view : DeskId → FileVersion → FileView Disk = λ d z. file_view (contents z) seen images d game in
      let w0 = start version boards a b in
      let begins : Begins s version boards w0 = record {
        a = (a, refl, first (view A version) seen innings A a begin.0);
        b = (b, refl, first (view B version) seen innings B b begin.1);
        boards_are_fresh = refl;
        nothing_sent = refl;
      } in
      let lives : AllMay view seen seals game innings w0 hs = (
        λ d. let x = w.desks d in subst (DeskLocal (view d) seen d game innings (node w0 d)) (sym x.2) (desk_life (view d) seen d game innings faults (node w0 d) x.0 x.1).0,
        λ n. board_life Disk game innings n (board_at w0.boards n) (filter (is_at_board n) hs) (w.boards n) (w.no_others n),
      ) in (
        begins,
        (weaves view seen seals game innings w0 hs refl w.order lives (λ gs f d.
            let found = (stands_fast s (after w0 gs) (fine s game innings refl version boards w0 begins gs f)).safe.reads d in
            some_bytes d (node (after w0 gs) d).version (seen (process_disk (node (after w0 gs) d).process)) found.0 found.1)).0,
      )
    where
      -- bytes that show votes aren't empty
      some_bytes : (d : DeskId) (z : FileVersion) (file : List ℕ) (votes : List Ballot) → votes_shown (contents z) d game file ≡ Some votes → 0 < length file
      some_bytes d z [] votes e = absurd (cc (none z d))
      some_bytes d z (x ∷ file) votes e = omega arith

  pub woven_lives_have_headline : WovenLivesHaveHeadline seen images faults
  woven_lives_have_headline seals contents game innings version boards a b hs none begin w =
      flows_have_headline seen images contents game innings version boards (start version boards a b) hs (woven_lives_flow seals contents game innings version boards a b hs none begin w)
