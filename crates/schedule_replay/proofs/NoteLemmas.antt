-- What noting a score adds to the scores shown so far.
use Rattle.std.proofs.Common.{◌≡◌, ◌≤◌, ◌<◌, ◌+◌, ◌*◌, ℕ, Bool, true, false, Some, List, [], ◌∷◌, ◌++◌, length, replicate}
use Rattle.std.proofs.Common.{sym, ap, ◌∙◌, subst, inl, inr, arith}
use Rattle.std.proofs.lemmas.Bool.Decides.{eqb_tells}
use Rattle.std.proofs.lemmas.Grind.{common_steps}
use Rattle.std.proofs.lemmas.List.{get_or-set_other, get_or-set_same, get_or_read_under, length-replicate, length-set}
use Rattle.std.proofs.lemmas.List.Elements.{Contains-append_left, Contains-push, Contains-push_cases}
use Rattle.std.specs.Prelude.{Contains, get_or, slice_get, slice_index_or, slice_set}
use Rattle.corrections.proofs.LegalLemmas.{slice_get-push}
use Rattle.match_laws.specs.declared.standing.Standing.{Standing}
use Rattle.notation.specs.declared.entry.TheConstants.{PLACES}
use Rattle.headline.specs.declared.event.Station.{Station}
use Rattle.schedule_replay.specs.declared.shown_scores.ShownScores.{ShownScores}
use Rattle.schedule_replay.specs.Replays.{StandOnce}
use Rattle.schedule_replay.specs.inner.ShownScores.{Adds, IsKept, IsMarked, IsStation, mark_of, most_marks, station_number}

abbrev pub Shown : Type 0
Shown = Station × ℕ × Standing

-- boards are numbered from 1
abbrev pub FromOne : Station → Type 0
FromOne (Station.Desk d) = Unit {0}
FromOne (Station.Board n) = 1 ≤ n

-- each station has its own number
pub same_station : (t u : Station) → FromOne t → FromOne u → station_number t ≡ station_number u → t ≡ u
same_station t u p q e = grind arith

-- each station and length have their own mark
same_mark : (t u : Station) (n m : ℕ) → IsStation t → IsStation u → n ≤ PLACES → m ≤ PLACES → mark_of t n ≡ mark_of u m → (t ≡ u) × (n ≡ m)
same_mark t u n m p q k l e = let h = apart (station_number t) (station_number u) n m k l e in (grind (arith, same_station t u, h.0, p, q), h.1)
  where
    apart : (a b n m : ℕ) → n ≤ PLACES → m ≤ PLACES → a * (PLACES + 1) + n ≡ b * (PLACES + 1) + m → (a ≡ b) × (n ≡ m)
    apart a b n m k l e = (omega (arith, k, l, e), omega (arith, k, l, e))

no_mark : (n i : ℕ) → get_or (replicate n false) i false ≡ true → ⊥
no_mark n i h = grind (arith, common_steps)

-- at first there are no scores and no marks
pub empty_kept : (shown : ShownScores) → shown.marks.items ≡ replicate most_marks false → shown.seen.items ≡ [] → IsKept shown
empty_kept shown marks seen = record {
  long = ap length marks ∙ length-replicate most_marks false;
  marked = λ t m p k h. absurd (no_mark most_marks (mark_of t m) (subst (λ (xs : List Bool). IsMarked xs t m) marks h));
  known = λ i t m score h. absurd (let none = rw seen at h in cc);
  once = λ i j t m score other h k. absurd (let none = rw seen at h in cc);
}

mark_stays : (xs : List Bool) (i j : ℕ) → i < length xs → get_or xs j false ≡ true → get_or (slice_set xs i true) j false ≡ true
mark_stays xs i j l h = grind (arith, get_or-set_same xs i true false l, get_or-set_other xs i j true false)

-- the mark read for a station and a length
pub mark_read : (shown : ShownScores) (u : Station) (m mark : ℕ) (b : Bool) → IsKept shown → mark ≡ mark_of u m → mark < most_marks → b ≡ slice_index_or shown.marks.items mark b
    → b ≡ get_or shown.marks.items (mark_of u m) false
mark_read shown u m mark b h e less read =
    get_or_read_under shown.marks.items mark most_marks b false read less (sym h.long) ∙ ap (λ (n : ℕ). get_or shown.marks.items n false) e

module _ (u : Station) (m : ℕ) (score : Standing) where
  -- a score that is already among them adds nothing
  pub stands_there : (seen : List Shown) → Contains seen (u, m, score) → Adds u (λ n s. (n ≡ m) × (s ≡ score)) seen seen
  stands_there seen h t n other = grind (arith, h)

  -- a score whose mark is set is among them
  pub marked_there : (shown : ShownScores) → IsKept shown → IsStation u → m ≤ PLACES → IsMarked shown.marks.items u m
      → ((other : Standing) → Contains shown.seen.items (u, m, other) → other ≡ score) → Contains shown.seen.items (u, m, score)
  marked_there shown h p small set one = let c = h.marked u m p small set in rw (one c.0 c.1) at c.1

  -- one more score is added
  pub one_added : (seen : List Shown) → Adds u (λ n s. (n ≡ m) × (s ≡ score)) seen (seen ++ (u, m, score) ∷ [])
  one_added seen t n other =
      let one : Shown = (u, m, score) in
      grind (arith, Contains-push_cases seen one (t, n, other), Contains-append_left seen (one ∷ []) (t, n, other), Contains-push seen one)

  once_more : (xs : List Shown) → StandOnce xs → ((i : ℕ) (other : Standing) → slice_get xs i ≡ Some (u, m, other) → ⊥) → StandOnce (xs ++ (u, m, score) ∷ [])
  once_more xs h none i j t n s o p q =
      grind (arith, slice_get-push xs (u, m, score) i (t, n, s) p, slice_get-push xs (u, m, score) j (t, n, o) q, h i j t n s o, none i s, none j o)

  -- an unmarked score is added and marked
  pub added_kept : (old new : ShownScores) → IsStation u → m ≤ PLACES → mark_of u m < most_marks → IsKept old → (IsMarked old.marks.items u m → ⊥)
      → new.marks.items ≡ slice_set old.marks.items (mark_of u m) true → new.seen.items ≡ old.seen.items ++ (u, m, score) ∷ [] → IsKept new
  added_kept old new p small within h unmarked marks seen =
      let at = mark_of u m in
      let less : at < length old.marks.items = let l = h.long in omega (arith, within, l) in
      let there : Contains new.seen.items (u, m, score) = rw seen (Contains-push old.seen.items (u, m, score)) in
      record {
        long = ap length marks ∙ length-set old.marks.items at true ∙ h.long;
        marked = λ t n q k e. elim (eqb_tells (mark_of t n) at) [
          | inl i ↦ let s = same_mark t u n m q p k small i.1 in (score, rw (s.0, s.1) there)
          | inr i ↦
              let c = h.marked t n q k (sym (get_or-set_other old.marks.items at (mark_of t n) true false i.1) ∙ subst (λ (xs : List Bool). IsMarked xs t n) marks e) in
              (c.0, rw seen (Contains-append_left old.seen.items ((u, m, score) ∷ []) (t, n, c.0) c.1))
        ];
        known = λ i t n s e. rw marks (elim (slice_get-push old.seen.items (u, m, score) i (t, n, s) (rw seen at e)) [
          | inl g ↦ mark_stays old.marks.items at (mark_of t n) less (h.known i t n s g)
          | inr g ↦ subst (λ (y : Shown). get_or (slice_set old.marks.items at true) (mark_of y.0 y.1) false ≡ true) g.1
              (get_or-set_same old.marks.items at true false less)
        ]);
        once = subst StandOnce (sym seen) (once_more old.seen.items h.once (λ i other g. unmarked (h.known i u m other g)));
      }
