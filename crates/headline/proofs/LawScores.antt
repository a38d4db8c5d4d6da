-- Each shown book is legal and has a score by the Laws, and that score is what is shown.
use Rattle.std.proofs.Common.{◌≡◌, ℕ, ◌+◌, ◌≤◌, Bool, cond, Some, None, List, [], ◌∷◌, ◌++◌, length, refl, sym, subst, inl, inr, arith}
use Rattle.std.specs.Prelude.{All, not, slice_get}
use Rattle.std.proofs.lemmas.List.{append-nil, append_assoc}
use Rattle.std.proofs.lemmas.List.Elements.{All-head, All-pop, All-tail}
use Rattle.notation.specs.declared.entry.Entry.{Entry}
use Rattle.notation.specs.Written.{IsEntry, IsPlain}
use Rattle.ball_laws.specs.History.{History, IsInRange}
use Rattle.ball_laws.specs.Laws.{state_after}
use Rattle.ball_laws.specs.Crease.{standing_of}
use Rattle.notation.specs.declared.entry.Side.TheVariants.{Home, Away}
use Rattle.match_laws.specs.History.{begun, entries, is_closed, is_open, is_void, last_side}
use Rattle.match_laws.specs.Parts.{score_of, side_record, table}
use Rattle.match_laws.specs.Refusals.{IsLegal}
use Rattle.match_laws.specs.Stands.{StandsFor}
use Rattle.match_laws.specs.declared.standing.Standing.{Standing}
use Rattle.match_laws.specs.inner.BattingTables.{batting_table_of}
use Rattle.match_laws.specs.inner.BowlingTables.{bowling_table_of}
use Rattle.corrections.specs.CleanList.{clean, clean_items_of, history_of, kept}
use Rattle.corrections.specs.Legal.{IsLegalBook}
use Rattle.corrections.specs.Refusal.{book_refusal}
use Rattle.corrections.specs.declared.placed.Placed.{Placed}
use Rattle.corrections.specs.inner.Kept.{IsKept}
use Rattle.corrections.specs.inner.Scoring.{AreInRange, history_after, with_entry}
use Rattle.corrections.proofs.BookGrowthLemmas.{in_range-items, items-push, kept_at_start, kept-push}
use Rattle.corrections.proofs.LegalLemmas.{clean_items_of-push, history_of-clean_items, is_named, legal-none, legal_now, one_more}
use Rattle.agree_core.specs.declared.messages.DeskId.TheVariants.{A}
use Rattle.agree_core.specs.Agreed.{AllBoth}
use Rattle.agree_core.specs.Ballots.{Ballot, In, ballot_at}
use Rattle.agree_core.proofs.Both.{both_at}
use Rattle.headline.specs.declared.version.FileVersion.{FileVersion}
use Rattle.headline.specs.Setting.{Setting}
use Rattle.headline.specs.Configurations.{Configuration, all_votes}
use Rattle.headline.specs.Events.{IsEvent}
use Rattle.headline.specs.Runs.{AtEachMoment, Begins, Moment, Run, events_of, last_of}
use Rattle.headline.specs.Headline.{HasRanges, AllHaveScores, ShowsLawsScores}
use Rattle.headline.specs.Penned.{WasPenned}
use Rattle.headline.proofs.Keeping.{Fine, begins_fine, run_keeps}
use Rattle.headline.proofs.PennedVotes.{BothHold, all_penned}
use Rattle.headline.proofs.ShownBooks.{shown_both}
use Rattle.headline.proofs.Sound.{Lawful, lawful_run, voted_taken}

-- ---- a legal history has a standing

abbrev standing_at : ℕ → History → Standing
standing_at n h = record {
  innings_a_side = n;
  taken = entries h;
  closed = is_closed h;
  playing = is_open h;
  last = last_side h;
  begun = begun h;
  home = side_record h Home;
  away = side_record h Away;
  crease = standing_of (state_after h);
  scores = table (score_of h) 4;
  batting = table (batting_table_of h) 4;
  bowling = table (bowling_table_of h) 4;
}

stands : (n : ℕ) (h : History) → 1 ≤ n → n ≤ 2 → IsLegal n h → IsInRange h → StandsFor (standing_at n h) n h
stands n h one two legal in_range = grind arith

-- ---- the history of a legal book of entries is in range

range_more : (is : Bool) (h : History) (x : Placed) (xs : List Placed) → ((g : History) → IsInRange g → IsInRange (history_after g (kept xs))) → IsInRange h → IsPlain x.item
    → IsInRange (history_after h (cond (not is) (x ∷ kept xs) (kept xs)))
range_more is h x xs h0 h1 h2 = grind arith

range_after : (xs : List Placed) → AreInRange xs → (h : History) → IsInRange h → IsInRange (history_after h (kept xs))
range_after [] all h r = r
range_after (x ∷ xs) all h r =
    range_more (is_void x.item) h x xs (range_after xs (All-tail (λ (s : Placed). IsPlain s.item) x xs all)) r (All-head (λ (s : Placed). IsPlain s.item) x xs all)

-- ---- books whose entries are taken one after the other

module _ (n : ℕ) (one : 1 ≤ n) (two : n ≤ 2) where
  -- the book has a score
  abbrev HasScore : List Entry → Type 0
  HasScore book = (score : Standing) × IsKept n book (clean_items_of book) score

  none_scored : HasScore []
  unfolding history_of clean clean_items_of
  none_scored =
      let s = stands n [] one two (legal_now n [] (legal-none n)) tt in
      (standing_at n [], kept_at_start n (standing_at n []) s)

  more_scored : (book : List Entry) (e : Entry) → HasScore book → IsEntry e → book_refusal n book e ≡ None → HasScore (book ++ e ∷ [])
  more_scored book e k r none =
      let kept = k.1 in
      let new = book ++ e ∷ [] in
      let legal = (one_more n book e kept.legal).0 none in
      let all = items-push book e (clean_items_of book) (is_named n book e none) r kept.items in
      let is = clean_items_of-push n book e kept.legal (is_named n book e none) in
      let ranges = subst AreInRange (sym is) (in_range-items new (with_entry (length book) e (clean_items_of book)) all) in
      let range = subst IsInRange (history_of-clean_items new) (range_after (clean_items_of new) ranges [] tt) in
      let m = standing_at n (history_of new) in
      let next = kept-push n book (clean_items_of book) k.0 m e kept r (none, stands n (history_of new) one two (legal_now n new legal) range) in
      (m, subst (λ (items : List Placed). IsKept n new items m) (sym is) next)

-- ---- books of entries that both desks voted for

get_middle : (xs : List Entry) (e : Entry) (es : List Entry) → slice_get (xs ++ e ∷ es) (length xs) ≡ Some e
get_middle [] e es = refl
get_middle (x ∷ xs) e es = get_middle xs e es

both_front : (own theirs : List Ballot) (place : ℕ) (xs ys : List Entry) → AllBoth own theirs place (xs ++ ys) → AllBoth own theirs place xs
both_front own theirs place [] ys h = tt
both_front own theirs place (x ∷ xs) ys h = (h.0, both_front own theirs (place + 1) xs ys h.1)

-- the rules of the match are those of a book
abbrev pub RulesAreLaws : {Disk Why : Type 0} → Setting Disk Why → ℕ → Type 0
RulesAreLaws s innings = (book : List Entry) (e : Entry) → s.rules book e ≡ None → book_refusal innings book e ≡ None

-- what is shown as a book's score is the standing of its history
abbrev pub ShowsStandings : {Disk Why : Type 0} → Setting Disk Why → ℕ → Type 0
ShowsStandings s innings = (book : List Entry) (score : Standing) → s.shows book score → StandsFor score innings (history_of book)

module _ {Disk Why : Type 0} (s : Setting Disk Why) (innings : ℕ) (laws : RulesAreLaws s innings) where
  by_entries : (v : Configuration Disk) (P : List Entry → Type 0) → Fine s v → BothHold s (λ d. Lawful s.rules) v
      → ((xs : List Entry) (b : Ballot) → P xs → In b (all_votes v).a → book_refusal innings xs b.entry ≡ None → P (xs ++ b.entry ∷ []))
      → (xs es : List Entry) → P xs → AllBoth (all_votes v).a (all_votes v).b 0 (xs ++ es) → P (xs ++ es)
  by_entries v P f l more xs [] k both = rw append-nil k
  by_entries v P f l more xs (e ∷ es) k both =
      let votes = all_votes v in
      let at = both_at votes.a votes.b 0 (xs ++ e ∷ es) (length xs) e both (get_middle xs e es) in
      let b = ballot_at (0 + length xs) at.0 e in
      let taken = voted_taken s v A b xs f l at.1.0 (both_front votes.a votes.b 0 xs (e ∷ es) both) (omega arith) in
      let is = append_assoc xs (e ∷ []) es in
      subst P is (by_entries v P f l more (xs ++ e ∷ []) es (more xs b k at.1.0 (laws xs e taken)) (subst (AllBoth votes.a votes.b 0) (sym is) both))

  module _ (stands : ShowsStandings s innings) where
    shown_now : (version : FileVersion) (n : ℕ) (w : Configuration Disk) (ms : List (Moment Disk Why)) → Begins s version n w → Run s w ms
        → ShowsLawsScores s innings (last_of w ms)
    shown_now version n w ms e r t book score shows is =
        let v = last_of w ms in
        let f = run_keeps s w ms (begins_fine s version n w e) r in
        let more : (xs : List Entry) (b : Ballot) → IsLegalBook innings xs → In b (all_votes v).a → book_refusal innings xs b.entry ≡ None → IsLegalBook innings (xs ++ b.entry ∷ []) =
        λ xs b k i none. (one_more innings xs b.entry k).0 none in
        record {
          legal = by_entries v (IsLegalBook innings) f (lawful_run s version n w ms e r) more [] book (legal-none innings) (shown_both s v t book f shows);
          score = stands book score is;
        }

    pub laws_shown : (version : FileVersion) (n : ℕ) (w : Configuration Disk) (ms : List (Moment Disk Why)) → Begins s version n w → Run s w ms
        → AtEachMoment w ms (ShowsLawsScores s innings)
    laws_shown version n w [] e r = shown_now version n w [] e r
    laws_shown version n w (m ∷ ms) e r = (shown_now version n w (m ∷ ms) e r, laws_shown version n w ms e r.0)

  module _ (one : 1 ≤ innings) (two : innings ≤ 2) where
    penned_entry : (w : Configuration Disk) (ms : List (Moment Disk Why)) (b : Ballot) → All IsEvent (events_of ms) → WasPenned w ms A b → IsEntry b.entry
    penned_entry w [] b all h = absurd h
    penned_entry w (m ∷ ms) b all (inl p) = subst IsEvent p.0 (All-pop IsEvent (events_of (m ∷ ms)) (events_of ms) (Some m.event) refl all).1
    penned_entry w (m ∷ ms) b all (inr h) = penned_entry w ms b (All-pop IsEvent (events_of (m ∷ ms)) (events_of ms) (Some m.event) refl all).0 h

    -- if the numbers of every penned entry are in range
    pub shown_scored : (version : FileVersion) (n : ℕ) (w : Configuration Disk) (ms : List (Moment Disk Why)) → Begins s version n w → Run s w ms
        → ((b : Ballot) → WasPenned w ms A b → IsEntry b.entry) → AllHaveScores innings (last_of w ms)
    shown_scored version n w ms e r entries t book shows =
        let v = last_of w ms in
        let f = run_keeps s w ms (begins_fine s version n w e) r in
        let penned = all_penned s version n w ms e r in
        let k = by_entries v (HasScore innings one two) f (lawful_run s version n w ms e r) (λ xs b k i none. more_scored innings one two xs b.entry k (entries b (penned A b i)) none) [] book
        (none_scored innings one two) (shown_both s v t book f shows) in
        (k.0, record { legal = k.1.legal; score = k.1.scored })

    each_scored : (version : FileVersion) (n : ℕ) (w : Configuration Disk) (ms : List (Moment Disk Why)) → Begins s version n w → Run s w ms
        → ((b : Ballot) → WasPenned w ms A b → IsEntry b.entry) → AtEachMoment w ms (AllHaveScores innings)
    each_scored version n w [] e r entries = shown_scored version n w [] e r entries
    each_scored version n w (m ∷ ms) e r entries = (shown_scored version n w (m ∷ ms) e r entries, each_scored version n w ms e r.0 (λ b p. entries b (inr p)))

  pub scored : (version : FileVersion) (n : ℕ) (w : Configuration Disk) (ms : List (Moment Disk Why)) → Begins s version n w → Run s w ms → HasRanges innings ms
      → AtEachMoment w ms (AllHaveScores innings)
  scored version n w ms e r ranges = each_scored ranges.0 ranges.1 version n w ms e r (λ b p. penned_entry ranges.0 ranges.1 w ms b ranges.2 p)
