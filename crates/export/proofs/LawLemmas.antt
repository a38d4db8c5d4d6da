-- What the deliveries and the penalty runs of an export add up to.
use Rattle.std.proofs.Common.{◌≡◌, ℕ, ◌+◌, ◌*◌, ◌==◌, ◌&&◌, cond, Bool, true, List, [], ◌∷◌, ◌++◌, filter}
use Rattle.std.proofs.Common.{map, nat_lt, codes, None, Option, refl, ap, ◌∙◌, arith}
use Rattle.std.specs.List.{flat_map, list_any}
use Rattle.std.proofs.lemmas.Bool.{eqb-true}
use Rattle.std.proofs.lemmas.Bool.Decides.{nat_tests}
use Rattle.notation.specs.declared.entry.{Ball.Ball, Entry.Entry}
use Rattle.ball_laws.specs.History.{History, is_wicket}
use Rattle.ball_laws.specs.Sums.{tally, count_of}
use Rattle.match_laws.specs.History.{side_of, awards, is_at, Award}
use Rattle.match_laws.specs.Figures.{runs_of, total, wickets, award_innings, penalty_runs}
use Rattle.corrections.specs.declared.placed.Placed.{Placed}
use Rattle.corrections.specs.CleanList.{clean, history_of}
use Rattle.corrections.specs.inner.Scoring.{history_after}
use Rattle.corrections.specs.Refusal.{first_refused}
use Rattle.corrections.specs.Legal.{IsLegalBook}
use Rattle.corrections.proofs.LegalLemmas.{history_after-clean, scored_legal}
use Rattle.corrections.proofs.ScoringLemmas.{first_refused-cons}
use Rattle.cards.specs.Sheet.{Sheet}
use Rattle.archive_deliveries.specs.declared.{begun.Begun.Begun, notes.Noted.Noted}
use Rattle.archive_deliveries.specs.Notes.{notes, begun_of, carried, items_in}
use Rattle.archive_deliveries.specs.Deliveries.{penalties}
use Rattle.json.specs.Json.{Json}
use Rattle.json_fields.specs.Values.{Field, members_of, number_field, object_of, flag_if}
use Rattle.limits.specs.declared.powerplay.Powerplay.{Powerplay}
use Rattle.limits.specs.Limits.{overs_for}
use Rattle.export.specs.Info.{overs_told}
use Rattle.export.specs.Innings.{runs_before, runs_after, penalty_field, powerplay_fields, needed_in, overs_of, is_declared, is_forfeited}
use Rattle.archive_deliveries.specs.Miscounts.{is_miscounted, miscounts}
use Rattle.export.specs.Laws.{IsCount, TotalsAddUp, at, innings_at, noted_items, member_at, total_in}
use Rattle.export.proofs.Weights.{ball_here, gone_here, in_innings, noted_weight, weights_so_far}
use Rattle.export.proofs.ReadLemmas.{elements-of, in_over, overs_all, totals_of, totals_read}

-- the runs of a delivery, whoever faced it
abbrev own_runs : Option ℕ → Ball → ℕ
own_runs striker b = runs_of b

-- ---- wickets

-- how many items of innings i are wickets
abbrev pub wickets_listed : List Noted → ℕ → ℕ
wickets_listed xs i = count_of (λ x. is_wicket x.item && (x.innings == i)) xs

wickets_so_far : (n : ℕ) (h : History) (xs : List Placed) (i : ℕ) → first_refused n h xs ≡ None →
    wickets_listed (notes h xs) i + wickets h i ≡ wickets (history_after h xs) i
unfolding wickets
wickets_so_far n h [] i e = omega arith
wickets_so_far n h (x ∷ xs) i e =
    let both = first_refused-cons n h x xs e in
    grind (arith, ball_here n h, gone_here n h, both.0, wickets_so_far n (x.item ∷ h) xs i both.1)

-- ---- penalty runs: each award that counts in an innings stands in one place

module _ (f : Begun) (i : ℕ) where
  -- the totals of the deliveries and the awards before the first delivery are all runs and awards among the items
  totals_sum : (xs : List Noted) → tally (λ k. k) (totals_of f i xs) + penalties f i (carried xs) ≡ tally (noted_weight own_runs) xs + penalties f i xs
  totals_sum [] = refl
  totals_sum (x ∷ xs) = grind (arith, totals_sum xs)

  -- each item stands in this innings, an earlier one or a later one
  pub places : (xs : List Noted) → penalties f i (items_in i xs)
      + (penalties f i (filter (λ x. nat_lt x.innings i) xs) + penalties f i (filter (λ x. nat_lt i x.innings) xs)) ≡ penalties f i xs
  places [] = refl
  places (x ∷ xs) = grind (arith, nat_tests, places xs)

-- ---- the awards are those of the Laws

abbrev counts_at : History → ℕ → Award → Bool
counts_at h i a = is_at (award_innings h a) i

pub awards_so_far : (h : History) (i : ℕ) (g : History) (xs : List Placed) →
    penalties (begun_of h) i (notes g xs) + 5 * count_of (counts_at h i) (awards g) ≡ 5 * count_of (counts_at h i) (awards (history_after g xs))
awards_so_far h i g [] = omega arith
awards_so_far h i g (x ∷ xs) = grind (arith, awards_so_far h i (x.item ∷ g) xs)

pub wickets_added : (n : ℕ) (book : List Entry) → IsLegalBook n book → (i : ℕ) → wickets_listed (noted_items book) i ≡ wickets (history_of book) i
unfolding wickets
wickets_added n book legal i =
    let fallen = wickets_so_far n [] (clean book) i (scored_legal n book legal) in
    rw (← history_after-clean book) (omega (arith, fallen))

-- the totals of an innings' deliveries and its penalty runs add up to its total
pub total_added : (n : ℕ) (book : List Entry) → IsLegalBook n book → (i : ℕ) →
    let f = begun_of (history_of book) in
    let xs = noted_items book in
    tally (λ k. k) (totals_of f i (items_in i xs)) + runs_before f i xs + runs_after f i xs ≡ total (history_of book) i
unfolding total penalty_runs
total_added n book legal i =
    let h = history_after [] (clean book) in
    let xs = noted_items book in
    let runs = weights_so_far own_runs n [] (clean book) i (scored_legal n book legal) in
    let penalty = awards_so_far h i [] (clean book) in
    rw (← history_after-clean book) (omega (
      arith,
      totals_sum (begun_of h) i (items_in i xs),
      in_innings own_runs i xs,
      places (begun_of h) i xs,
      runs,
      penalty,
    ))

-- ---- what a reader looks up

abbrev rest : Bool → Bool → Bool → Bool → Bool → ℕ → ℕ → Json → Json → List Powerplay → List Field
rest z d e t m before after runs overs ps =
    ((((cond z [] (penalty_field before after ∷ []) ++ flag_if d (codes "declared")) ++ flag_if e (codes "forfeited"))
    ++ cond t ((codes "target", runs) ∷ []) []) ++ powerplay_fields ps) ++ cond m ((codes "miscounted_overs", overs) ∷ []) []

rest_read : (d e t m : Bool) (before after : ℕ) (runs overs : Json) (ps : List Powerplay) (z : Bool) → (z ≡ true → before + after ≡ 0)
    → let there = member_at (codes "penalty_runs") (members_of (rest z d e t m before after runs overs ps)) in
    IsCount before (at (codes "pre") there) × IsCount after (at (codes "post") there)
rest_read d e t m before after runs overs ps z none = grind (arith, none, eqb-true before 0, eqb-true after 0)

-- the penalty runs that no delivery carries
pub penalties_read : (s : Sheet) (book : List Entry) (i : ℕ) →
    let f = begun_of (history_of book) in
    let there = at (codes "penalty_runs") (innings_at s book i) in
    IsCount (runs_before f i (noted_items book)) (at (codes "pre") there) × IsCount (runs_after f i (noted_items book)) (at (codes "post") there)
penalties_read s book i =
    let h = history_of book in
    let xs = noted_items book in
    let ys = items_in i xs in
    let before = runs_before (begun_of h) i xs in
    let after = runs_after (begun_of h) i xs in
    rest_read (is_declared ys) (is_forfeited ys) (i + 1 == 2 * s.innings) (list_any is_miscounted ys) before after
    (object_of (number_field (codes "runs") (needed_in h i) ∷ [] ++ overs_told (overs_for s.limits i))) (object_of (miscounts ys)) s.limits.powerplays (before + after == 0) (eqb-true (before + after) 0)

pub totals_add_up : (s : Sheet) (n : ℕ) (book : List Entry) → IsLegalBook n book → TotalsAddUp s book
totals_add_up s n book legal i =
    let h = history_of book in
    let xs = noted_items book in
    let f = begun_of h in
    let ys = items_in i xs in record {
      totals = totals_of f i ys;
      before = runs_before f i xs;
      after = runs_after f i xs;
      each = ap (λ overs. map total_in (flat_map in_over overs)) (elements-of (overs_of s (side_of h i) f i ys))
          ∙ (ap (map total_in) (overs_all s (side_of h i) f i (carried ys) ys) ∙ totals_read s (side_of h i) f i (carried ys) ys);
      pre = (penalties_read s book i).0;
      post = (penalties_read s book i).1;
      sum = total_added n book legal i;
    }
