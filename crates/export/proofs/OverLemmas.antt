-- A reader's overs of which each delivery passes a test are those of the Laws, the open one among them.
use Rattle.std.proofs.Common.{◌≡◌, ℕ, ◌+◌, ◌<◌, ◌≤◌, ◌==◌, ◌&&◌, not, Bool, true, false, nat_lt, if◌then◌else◌, List, [], ◌∷◌, ◌++◌, All, length, codes, Option, Some, None, refl, ap, ◌∙◌, arith, eq-eqb}
use Rattle.std.specs.List.{AllByRecursion, list_all}
use Rattle.std.proofs.lemmas.Bool.Decides.{nat_tests}
use Rattle.notation.specs.declared.entry.{Side.Side, Ball.Ball, Plain.Plain, Entry.Entry}
use Rattle.notation.specs.declared.entry.Plain.TheVariants.{Ball as Bowl}
use Rattle.notation.specs.Written.{IsEntry, IsPlain}
use Rattle.ball_laws.specs.declared.ends.Ends.{Ends}
use Rattle.ball_laws.specs.History.{History}
use Rattle.ball_laws.specs.Sums.{count_of, one_if}
use Rattle.match_laws.specs.History.{innings_overs, is_at, side_of, since_call}
use Rattle.match_laws.specs.Figures.{overs}
use Rattle.corrections.specs.declared.placed.Placed.{Placed}
use Rattle.corrections.specs.inner.Scoring.{history_after}
use Rattle.corrections.specs.CleanList.{clean, history_of}
use Rattle.corrections.specs.Legal.{IsLegalBook}
use Rattle.corrections.specs.Refusal.{first_refused}
use Rattle.corrections.proofs.LegalLemmas.{history_after-clean, scored_legal}
use Rattle.corrections.proofs.ScoringLemmas.{first_refused-cons}
use Rattle.cards.specs.Sheet.{Sheet}
use Rattle.json.specs.Json.{Json}
use Rattle.archive_deliveries.specs.declared.{begun.Begun.Begun, notes.Noted.Noted}
use Rattle.archive_deliveries.specs.Notes.{begun_of, carried, is_ball, items_in, notes}
use Rattle.archive_deliveries.specs.Deliveries.{delivery_of, listed_of, penalties}
use Rattle.export.specs.Innings.{deliveries_from, over_of, overs_from, overs_of}
use Rattle.export.specs.Laws.{at, innings_at, noted_items, values_of}
use Rattle.export.specs.Readers.{overs_with}
use Rattle.export.proofs.ReadLemmas.{elements-of}
use Rattle.export.proofs.SumLemmas.{IsPlainNoted, plain_items}
use Rattle.export.proofs.Weights.{ball_here}

list_all-append : {X : Type 0} (p : X → Bool) (xs ys : List X) → list_all p (xs ++ ys) ≡ list_all p xs && list_all p ys
list_all-append p [] ys = refl
list_all-append p (x ∷ xs) ys = grind (arith, list_all-append p xs ys)

module _ (q : Ball → Bool) where
  -- an over with deliveries, each of which passes the test
  abbrev pub is_full : List Ball → Bool
  is_full [] = false
  is_full (b ∷ bs) = list_all q (b ∷ bs)

  -- an item passes if it is no ball that fails
  abbrev passes : Plain → Bool
  passes (Bowl b) = q b
  passes _ = true

  -- the balls up to the first one of another over than k pass
  abbrev all_on : ℕ → List Noted → Bool
  all_on k [] = true
  all_on k (x ∷ xs) = if is_ball x.item then (if k == x.over then passes x.item && all_on k xs else true) else all_on k xs

  -- how many overs that begin among the items pass
  abbrev full_from : Option ℕ → List Noted → ℕ
  full_from before [] = 0
  full_from before (x ∷ xs) =
      if is_ball x.item && not (is_at before x.over)
      then one_if (passes x.item && all_on x.over xs) + full_from (Some x.over) xs
      else full_from before xs

  -- ---- the overs of the export are those of its items

  module _ (s : Sheet) (side : Side) (f : Begun) (i : ℕ) (r : Json → Bool)
      (reads : (penalty : ℕ) (early late : List Noted) (ends : Ends) (b : Ball) → b.ran ≤ 20 → r (delivery_of s side penalty early ends b late) ≡ q b) where
    one_passes : (early : List Noted) (p : Plain) (ends : Ends) (late : List Noted) (more : List Json) → IsPlain p →
        list_all r (listed_of s side f i early p ends late ++ more) ≡ passes p && list_all r more
    one_passes early (Bowl b) ends late more is = rw (reads (penalties f i late) early late ends b is.ran) refl
    one_passes early p ends late more is = refl

    all_pass : (k : ℕ) (early xs : List Noted) → AllByRecursion IsPlainNoted xs → list_all r (deliveries_from s side f i k early xs) ≡ all_on k xs
    all_pass k early [] are = refl
    all_pass k early (x ∷ xs) are =
        grind (
          arith,
          one_passes early x.item x.ends (carried xs) (deliveries_from s side f i k [] xs) are.0,
          all_pass k [] xs are.1,
          all_pass k early xs are.1,
        )

    abbrev is_passed : Json → Bool
    is_passed over = list_all r (values_of (at (codes "deliveries") over))

    over_passes : (early : List Noted) (x : Noted) (xs : List Noted) → is_ball x.item ≡ true → AllByRecursion IsPlainNoted (x ∷ xs) →
        list_all r (values_of (at (codes "deliveries") (over_of s side f i x.over early (x ∷ xs)))) ≡ passes x.item && all_on x.over xs
    over_passes early x xs ball are =
        ap (list_all r) (elements-of (deliveries_from s side f i x.over early (x ∷ xs)))
        ∙ (all_pass x.over early (x ∷ xs) are ∙ rw (ball, eq-eqb x.over x.over refl) refl)

    overs_pass : (before : Option ℕ) (early xs : List Noted) → AllByRecursion IsPlainNoted xs →
        count_of is_passed (overs_from s side f i before early xs) ≡ full_from before xs
    overs_pass before early [] are = refl
    overs_pass before early (x ∷ xs) are =
        grind (
          arith,
          λ (ball : is_ball x.item ≡ true). over_passes early x xs ball are,
          overs_pass (Some x.over) [] xs are.1,
          overs_pass before early xs are.1,
        )

  -- ---- the overs of the items are those of the Laws

  module _ (n i : ℕ) where
    abbrev called : History → ℕ
    called h = length (innings_overs h i)

    abbrev ahead : History → List Placed → List Noted
    ahead h xs = items_in i (notes h xs)

    -- no ball from here on is of an over that was called before
    others_on : (h : History) (xs : List Placed) (k : ℕ) → first_refused n h xs ≡ None → k < called h → all_on k (ahead h xs) ≡ true
    unfolding overs
    others_on h [] k e low = refl
    others_on h (x ∷ xs) k e low =
        let both = first_refused-cons n h x xs e in
        grind (arith, nat_tests, λ (b : Ball). ball_here n h b i, both.0, others_on (x.item ∷ h) xs k both.1)

    -- whether the over that isn't called yet passes, so far and with the balls to come
    abbrev open_passes : List Ball → ℕ → List Noted → ℕ
    open_passes [] k xs = 0
    open_passes (b ∷ bs) k xs = one_if (list_all q (b ∷ bs) && all_on k xs)

    -- the over of the last ball was called before over k, or is over k
    abbrev is_before : Option ℕ → List Ball → ℕ → Bool
    is_before None [] k = true
    is_before (Some m) [] k = nat_lt m k
    is_before before (b ∷ bs) k = is_at before k

    abbrev full_at : History → ℕ
    full_at h = count_of is_full (since_call h i ∷ innings_overs h i)

    full_after : (h : History) (xs : List Placed) (before : Option ℕ) → first_refused n h xs ≡ None → is_before before (since_call h i) (called h) ≡ true
        → open_passes (since_call h i) (called h) (ahead h xs) + full_from before (ahead h xs) + count_of is_full (innings_overs h i)
        ≡ full_at (history_after h xs)
    unfolding overs
    full_after h [] before e fits = grind arith
    full_after h (x ∷ xs) before e fits =
        let both = first_refused-cons n h x xs e in
        grind (
          arith,
          nat_tests,
          ball_here n h,
          both.0,
          others_on (x.item ∷ h) xs (called h) both.1,
          full_after (x.item ∷ h) xs before both.1,
          full_after (x.item ∷ h) xs (Some (called h)) both.1,
        )

pub overs_read : (s : Sheet) (n : ℕ) (book : List Entry) (i : ℕ) (r : Json → Bool) (q : Ball → Bool) → All IsEntry book → IsLegalBook n book
    → ((penalty : ℕ) (early late : List Noted) (ends : Ends) (b : Ball) → b.ran ≤ 20 →
    r (delivery_of s (side_of (history_of book) i) penalty early ends b late) ≡ q b)
    → let h = history_of book in overs_with r (innings_at s book i) ≡ count_of (is_full q) (since_call h i ∷ innings_overs h i)
overs_read s n book i r q all legal reads =
    let h = history_of book in
    let f = begun_of h in
    let ys = items_in i (noted_items book) in
    let side = side_of h i in
    let is_passed : Json → Bool = λ over. list_all r (values_of (at (codes "deliveries") over)) in
    let listed : overs_with r (innings_at s book i) ≡ full_from q None ys =
    ap (count_of is_passed) (elements-of (overs_of s side f i ys)) ∙ overs_pass q s side f i r reads None (carried ys) ys (plain_items book i all) in
    let counted = full_after q n i [] (clean book) None (scored_legal n book legal) refl in
    let last = ap (λ k. count_of (is_full q) (since_call k i ∷ innings_overs k i)) (history_after-clean book) in
    omega (arith, listed, counted, last)
