-- The items that stand in a book that may not be legal, with one more entry.
use Rattle.std.proofs.lemmas.Grind.{common_steps}
use Rattle.std.proofs.Common.{◌≡◌, ℕ, ◌+◌, ◌<◌, true, false, Option, List, [], ◌∷◌, ◌++◌, length, map, take, drop, get_or, reverse, refl, sym, ◌∙◌, ap, subst, arith, append_assoc, length-append}
use Rattle.std.proofs.lemmas.Bool.{cases_Bool}
use Rattle.std.proofs.lemmas.List.{length_push, take_more, take-append-drop}
use Rattle.std.proofs.lemmas.Option.{slice_get_within}
use Rattle.std.specs.Prelude.{All, filter, not, slice_get}
use Rattle.notation.specs.declared.entry.{Plain.Plain, Entry.Entry}
use Rattle.notation.specs.declared.entry.Entry.TheVariants.{Write, Fix, Late}
use Rattle.notation.specs.Written.{IsEntry}
use Rattle.match_laws.specs.History.{is_void}
use Rattle.corrections.specs.declared.placed.Placed.{Placed}
use Rattle.corrections.specs.CleanList.{IsItemOf, clean, clean_items_of, history, history_of, kept}
use Rattle.corrections.specs.inner.Scoring.{AreInRange, with_entry}
use Rattle.corrections.specs.Legal.{IsLegalBook}
use Rattle.corrections.specs.Refusal.{is_fix, is_plain}
use Rattle.corrections.proofs.BookGrowthLemmas.{in_range-items, items-push}
use Rattle.corrections.proofs.CleanItemLemmas.{clean_items_of-write, clean_items_of-fix, clean_items_of-late}
use Rattle.corrections.proofs.LegalLemmas.{IsNamed, fixes_below, lates_below, slice_get-append_left, slice_get-push}
use Rattle.corrections.proofs.ScoringLemmas.{kept_first, kept_not}
use Rattle.plans.specs.Plans.{can_be_fixed, can_be_followed, names}
use Rattle.plans.specs.inner.Standing.{IsStanding}

-- ---- the items of a list up to one of them

pub next-item : {X : Type 0} (xs : List X) (i : ℕ) (x : X) → i < length xs → x ≡ get_or xs i x → take (i + 1) xs ≡ take i xs ++ x ∷ []
next-item xs i x lt is = take_more xs i x lt ∙ ap (λ y. take i xs ++ y ∷ []) (sym is)

pub parts-at : {X : Type 0} (xs : List X) (i : ℕ) (x : X) → i < length xs → x ≡ get_or xs i x → (take i xs ++ x ∷ []) ++ drop (i + 1) xs ≡ xs
parts-at xs i x lt is = ap (λ ys. ys ++ drop (i + 1) xs) (sym (next-item xs i x lt is)) ∙ take-append-drop (i + 1) xs

-- ---- what an entry names

named-fix : (book : List Entry) (p : ℕ) (o : Option Entry) → slice_get book p ≡ o → can_be_fixed o ≡ true → (p < length book) × (is_fix (slice_get book p) ≡ false)
named-fix book p o h h2 = grind (arith, common_steps, slice_get_within)

named-late : (book : List Entry) (p : ℕ) (o : Option Entry) → slice_get book p ≡ o → can_be_followed o ≡ true → (p < length book) × (is_plain (slice_get book p) ≡ true)
named-late book p o h h2 = grind (arith, common_steps, slice_get_within)

-- an entry names the same entry when there are more after it
pub named-more : (book more : List Entry) (e : Entry) → names book e ≡ true → IsNamed (book ++ more) e
named-more book more (Write x) e = absurd cc
named-more book more (Fix p x) e =
    let there = named-fix book p (slice_get book p) refl e in
    let lt = there.0 in
    (omega (arith, lt, length-append book more), ap is_fix (slice_get-append_left book more p lt) ∙ there.1)
named-more book more (Late p x) e =
    let there = named-late book p (slice_get book p) refl e in
    let lt = there.0 in
    (omega (arith, lt, length-append book more), ap is_plain (slice_get-append_left book more p lt) ∙ there.1)

-- ---- the items that stand

module _ (book : List Entry) (items : List Placed) (s : IsStanding book items) where
  clean-more : (e : Entry) → IsNamed book e → clean_items_of (book ++ e ∷ []) ≡ with_entry (length book) e (clean_items_of book)
  clean-more e h = grind (arith, common_steps, clean_items_of-write, clean_items_of-fix, clean_items_of-late)

  pub standing-more : (e : Entry) → IsNamed book e → IsEntry e → IsStanding (book ++ e ∷ []) (with_entry (length book) e items)
  standing-more e h h2 = grind (arith, common_steps, slice_get-push, length_push, clean-more, items-push)

  pub clean-standing : clean book ≡ kept items
  unfolding clean
  clean-standing = ap kept (sym s.stands)

-- the items with an entry that is made at this place, after others
pub standing-at : (book more : List Entry) (items : List Placed) (e : Entry) (place : ℕ) → IsStanding (book ++ more) items → names book e ≡ true → IsEntry e
    → place ≡ length book + length more → IsStanding (book ++ (more ++ e ∷ [])) (with_entry place e items)
standing-at book more items e place s named r at =
    let here : length (book ++ more) ≡ place = length-append book more ∙ sym at in
    subst (λ b. IsStanding b (with_entry place e items)) (append_assoc book more (e ∷ []))
    (subst (λ p. IsStanding ((book ++ more) ++ e ∷ []) (with_entry p e items)) here (standing-more (book ++ more) items s e (named-more book more e named) r))

-- those items are in range
pub in_range-at : (book more : List Entry) (items : List Placed) (e : Entry) (place : ℕ) → IsStanding (book ++ more) items → names book e ≡ true → IsEntry e
    → place ≡ length book + length more → AreInRange (with_entry place e items)
in_range-at book more items e place s named r at =
    in_range-items (book ++ (more ++ e ∷ [])) (with_entry place e items) (standing-at book more items e place s named r at).all_of

pub standing-legal : (n : ℕ) (book : List Entry) (items : List Placed) → IsLegalBook n book → items ≡ clean_items_of book → All (IsItemOf book) items → IsStanding book items
standing-legal n book items legal is all = record { fixes = fixes_below n book legal; lates = lates_below n book legal; stands = is; all_of = all }

-- entries are the same only if their items are
pub written-same : (x y : Plain) → Write x ≡ Write y → x ≡ y
written-same x y e = cc

-- ---- what the Laws see of the items

kept-items : (xs : List Placed) → map (λ s. s.item) (kept xs) ≡ filter (λ x. not (is_void x)) (map (λ s. s.item) xs)
kept-items [] = refl
kept-items (x ∷ xs) = grind (arith, common_steps, cases_Bool, kept_not, kept_first, kept-items xs)

-- where the same items stand, the Laws see the same history
pub same-history : (a b : List Entry) (xs ys : List Placed) → IsStanding a xs → IsStanding b ys → map (λ s. s.item) xs ≡ map (λ s. s.item) ys → history_of a ≡ history_of b
unfolding history_of
same-history a b xs ys s t same =
    ap history (clean-standing a xs s)
    ∙ ap reverse (kept-items xs ∙ ap (filter (λ x. not (is_void x))) same ∙ sym (kept-items ys))
    ∙ ap history (sym (clean-standing b ys t))
