-- A sum over an export's deliveries is a sum over those of the Laws, where each value is read as a number of its ball.
use Rattle.std.proofs.Common.{◌≡◌, ℕ, ◌+◌, ◌≤◌, ◌==◌, List, [], ◌∷◌, All, Option, refl, ap, ◌∙◌, arith}
use Rattle.std.specs.List.{AllByRecursion, flat_map}
use Rattle.std.proofs.lemmas.List.Elements.{All-append, All-cons, All-filter, All-from_recursion, All-nil, recursion_from_All}
use Rattle.notation.specs.declared.entry.{Side.Side, Ball.Ball, Plain.Plain, Entry.Entry}
use Rattle.notation.specs.declared.entry.Plain.TheVariants.{Ball as Bowl}
use Rattle.notation.specs.Written.{IsEntry, IsPlain}
use Rattle.ball_laws.specs.declared.ends.Ends.{Ends}
use Rattle.ball_laws.specs.History.{History}
use Rattle.ball_laws.specs.Sums.{tally}
use Rattle.match_laws.specs.History.{deliveries, side_of}
use Rattle.corrections.specs.declared.placed.Placed.{Placed}
use Rattle.corrections.specs.CleanList.{clean, clean_items_from, clean_items_of, fixed, history_of, is_kept, lates_from}
use Rattle.corrections.specs.Legal.{IsLegalBook}
use Rattle.corrections.proofs.LegalLemmas.{history_after-clean, scored_legal}
use Rattle.cards.specs.Sheet.{Sheet}
use Rattle.json.specs.Json.{Json}
use Rattle.archive_deliveries.specs.declared.{begun.Begun.Begun, notes.Noted.Noted}
use Rattle.archive_deliveries.specs.Notes.{begun_of, carried, items_in, notes}
use Rattle.archive_deliveries.specs.Deliveries.{delivery_of, listed_of, penalties}
use Rattle.export.specs.Innings.{overs_of}
use Rattle.export.specs.Laws.{deliveries_in, innings_at, noted_items}
use Rattle.export.proofs.ReadLemmas.{all_listed, elements-of, in_over, overs_all}
use Rattle.export.proofs.Weights.{delivery_weight, in_innings, noted_weight, weight, weights_so_far}

-- ---- the numbers in the items are in their ranges

abbrev IsPlainItem : Placed → Type 0
IsPlainItem x = IsPlain x.item

fixed_plain : (es : List Entry) (p : ℕ) (x : Plain) → AllByRecursion IsEntry es → IsPlain x → IsPlain (fixed es p x)
fixed_plain [] p x are is = is
fixed_plain (e ∷ es) p x are is = grind (arith, fixed_plain es p)

module _ (book : List Entry) (are_all : AllByRecursion IsEntry book) where
  lates_plain : (a p : ℕ) (es : List Entry) → AllByRecursion IsEntry es → All IsPlainItem (lates_from book a p es)
  lates_plain a p [] are = All-nil IsPlainItem
  lates_plain a p (e ∷ es) are =
      grind (arith, All-cons IsPlainItem, fixed_plain book, lates_plain a (p + 1) es are.1)

  items_plain : (p : ℕ) (es : List Entry) → AllByRecursion IsEntry es → All IsPlainItem (clean_items_from book p es)
  items_plain p [] are = All-nil IsPlainItem
  items_plain p (e ∷ es) are =
      grind (arith, All-cons IsPlainItem, All-append IsPlainItem, fixed_plain book, lates_plain p 0 book, items_plain (p + 1) es are.1)

clean_plain : (book : List Entry) → All IsEntry book → All IsPlainItem (clean book)
unfolding clean clean_items_of
clean_plain book all =
    let are = recursion_from_All IsEntry book all in All-filter is_kept IsPlainItem (clean_items_from book 0 book) (items_plain book are 0 book are)

-- an item noted with where it stands has its numbers in their ranges
abbrev pub IsPlainNoted : Noted → Type 0
IsPlainNoted x = IsPlain x.item

notes_plain : (h : History) (xs : List Placed) → AllByRecursion IsPlainItem xs → AllByRecursion IsPlainNoted (notes h xs)
notes_plain h [] are = tt
notes_plain h (x ∷ xs) are = (are.0, notes_plain (x.item ∷ h) xs are.1)

-- so have those of an innings
pub plain_items : (book : List Entry) (i : ℕ) → All IsEntry book → AllByRecursion IsPlainNoted (items_in i (noted_items book))
plain_items book i all =
    let noted = notes_plain [] (clean book) (recursion_from_All IsPlainItem (clean book) (clean_plain book all)) in
    let plain = All-filter (λ x. x.innings == i) IsPlainNoted (noted_items book) (All-from_recursion IsPlainNoted (noted_items book) noted) in
    recursion_from_All IsPlainNoted (items_in i (noted_items book)) plain

-- ---- sums

module _ (w : Option ℕ → Ball → ℕ) where
  module _ (s : Sheet) (side : Side) (f : Begun) (i : ℕ) (g : Json → ℕ)
      (reads : (penalty : ℕ) (early late : List Noted) (ends : Ends) (b : Ball) → b.ran ≤ 20 →
      g (delivery_of s side penalty early ends b late) ≡ w ends.striker b) where
    one_sum : (early : List Noted) (p : Plain) (ends : Ends) (late : List Noted) → IsPlain p →
        tally g (listed_of s side f i early p ends late) ≡ weight w p ends.striker
    one_sum early (Bowl b) ends late is = omega (arith, reads (penalties f i late) early late ends b is.ran)
    one_sum early p ends late is = refl

    listed_sum : (early xs : List Noted) → AllByRecursion IsPlainNoted xs → tally g (all_listed s side f i early xs) ≡ tally (noted_weight w) xs
    listed_sum early [] are = refl
    listed_sum early (x ∷ xs) are = grind (arith, one_sum early x.item x.ends (carried xs) are.0, listed_sum [] xs are.1, listed_sum early xs are.1)

  pub sum_read : (s : Sheet) (n : ℕ) (book : List Entry) (i : ℕ) (g : Json → ℕ) → All IsEntry book → IsLegalBook n book
      → ((penalty : ℕ) (early late : List Noted) (ends : Ends) (b : Ball) → b.ran ≤ 20 →
      g (delivery_of s (side_of (history_of book) i) penalty early ends b late) ≡ w ends.striker b)
      → tally g (deliveries_in (innings_at s book i)) ≡ tally (delivery_weight w i) (deliveries (history_of book))
  sum_read s n book i g all legal reads =
      let h = history_of book in
      let f = begun_of h in
      let ys = items_in i (noted_items book) in
      let side = side_of h i in
      let same : deliveries_in (innings_at s book i) ≡ all_listed s side f i (carried ys) ys =
      ap (flat_map in_over) (elements-of (overs_of s side f i ys)) ∙ overs_all s side f i (carried ys) ys in
      let listed = ap (tally g) same ∙ listed_sum s side f i g reads (carried ys) ys (plain_items book i all) in
      let far = weights_so_far w n [] (clean book) i (scored_legal n book legal) in
      let last = ap (λ k. tally (delivery_weight w i) (deliveries k)) (history_after-clean book) in
      omega (arith, listed, in_innings w i (noted_items book), far, last)
