-- The items before the one that an entry writes, adds or changes stay as they are.
use Rattle.std.proofs.Common.{◌≡◌, ◌⊎◌, ℕ, ◌+◌, ◌-◌, ◌==◌, nat_lt, Bool, true, false, List, [], ◌∷◌, ◌++◌, Option, None, take, drop, length, map, refl, sym, ap, ap₂, ◌∙◌, subst, inl, inr, arith, add-one}
use Rattle.std.specs.Prelude.{if◌then◌else◌, slice_get}
use Rattle.std.proofs.lemmas.Bool.{cases_Bool}
use Rattle.std.proofs.lemmas.Bool.Decides.{nat_tests}
use Rattle.std.proofs.lemmas.List.{length-append, take-append-drop}
use Rattle.notation.specs.declared.entry.{Entry.Entry, Plain.Plain}
use Rattle.notation.specs.declared.entry.Entry.TheVariants.{Write, Fix, Late}
use Rattle.ball_laws.specs.History.{History}
use Rattle.ball_laws.specs.Laws.{state_after}
use Rattle.corrections.specs.declared.placed.Placed.{Placed}
use Rattle.corrections.specs.CleanList.{clean_items_of}
use Rattle.corrections.specs.Legal.{IsLegalBook}
use Rattle.corrections.specs.Refusal.{book_refusal}
use Rattle.corrections.specs.inner.Scoring.{corrected, with_entry, with_late}
use Rattle.corrections.proofs.CleanItemLemmas.{with_late-cons}
use Rattle.corrections.proofs.LegalLemmas.{clean_items_of-push, is_named, slice_get-last}
use Rattle.json.specs.Json.{Json}
use Rattle.over_numbers.specs.Counts.{counted}
use Rattle.corrections.specs.Corrected.{corrected_at, fix_or, last_fix}
use Rattle.desk_state.specs.Book.{book_items, first_new, index_of, item_value, news_from, touched_at, value_in, values_behind}

-- ys and xs are equal up to the item with place p
abbrev IsSameBefore : ℕ → List Placed → List Placed → Type 0
IsSameBefore p [] xs = Unit {0}
IsSameBefore p (y ∷ ys) [] = (y.place == p) ≡ true
IsSameBefore p (y ∷ ys) (x ∷ xs) = ((y.place == p) ≡ true) ⊎ ((y ≡ x) × IsSameBefore p ys xs)

-- each item with another place has the same value after the same history
abbrev IsSameElsewhere : ℕ → (History → Placed → Json) → (History → Placed → Json) → Type 0
IsSameElsewhere p v w = (h : History) (x : Placed) → (x.place == p) ≡ false → v h x ≡ w h x

module _ (p : ℕ) (v w : History → Placed → Json) (same : IsSameElsewhere p v w) where
  values_same : (h : History) (ys xs : List Placed) → IsSameBefore p ys xs → take (index_of p ys) (values_behind v h ys) ≡ take (index_of p ys) (values_behind w h xs)
  values_same h [] xs before = refl
  values_same h (y ∷ ys) [] here = rw here refl
  values_same h (y ∷ ys) (x ∷ xs) (inl here) = rw here refl
  values_same h (y ∷ ys) (x ∷ xs) (inr (is, before)) = elim (cases_Bool (y.place == p)) [
    | inl here ↦ rw here refl
    | inr elsewhere ↦
        let one = same h y elsewhere ∙ ap (w h) is in
        let more = subst (λ z. take (index_of p ys) (values_behind v (y.item ∷ h) ys) ≡ take (index_of p ys) (values_behind w (z.item ∷ h) xs)) is
        (values_same (y.item ∷ h) ys xs before) in
        rw (elsewhere, add-one) (ap₂ (λ v vs. v ∷ vs) one more)
  ]

same_written : (p : ℕ) (s : Placed) (xs : List Placed) → (s.place == p) ≡ true → IsSameBefore p (xs ++ s ∷ []) xs
same_written p s [] here = here
same_written p s (x ∷ xs) here = inr (refl, same_written p s xs here)

same_corrected : (p : ℕ) (x : Plain) (xs : List Placed) → IsSameBefore p (map (corrected p x) xs) xs
same_corrected p x [] = tt
same_corrected p x (s ∷ xs) = elim (cases_Bool (p == s.place)) [
  | inl here ↦ inl (rw here (grind (arith, nat_tests, here)))
  | inr elsewhere ↦ inr (rw elsewhere refl, same_corrected p x xs)
]

same_late : (p : ℕ) (s : Placed) (xs : List Placed) → (s.place == p) ≡ true → IsSameBefore p (with_late s xs) xs
same_late p s [] here = here
same_late p s (x ∷ xs) here = rw (with_late-cons s x xs) (by_anchor (nat_lt x.anchor (s.anchor + 1)) (same_late p s xs here))
  where
    by_anchor : (b : Bool) → IsSameBefore p (with_late s xs) xs → IsSameBefore p (if b then x ∷ with_late s xs else s ∷ x ∷ xs) (x ∷ xs)
    by_anchor true more = inr (refl, more)
    by_anchor false more = inl here

same_before : (book : List Entry) (e : Entry) (xs : List Placed) → IsSameBefore (touched_at (length book) e) (with_entry (length book) e xs) xs
same_before book (Write x) xs = same_written (length book) _ xs (grind (arith, nat_tests))
same_before book (Fix q x) xs = same_corrected q x xs
same_before book (Late q x) xs = same_late (length book) _ xs (grind (arith, nat_tests))

-- an entry corrects only the item that it touches
last_fix-push : (p k : ℕ) (o : Option ℕ) (es : List Entry) (e : Entry) → last_fix p k o (es ++ e ∷ []) ≡ fix_or p (k + length es) (last_fix p k o es) e
last_fix-push p k o [] e = ap (λ n. fix_or p n o e) (omega arith)
last_fix-push p k o (x ∷ es) e = last_fix-push p (k + 1) (fix_or p k o x) es e ∙ ap (λ n. fix_or p n (last_fix p k o (x ∷ es)) e) (omega arith)

none_touched : (p k n : ℕ) (o : Option ℕ) (e : Entry) → (p == touched_at n e) ≡ false → fix_or p k o e ≡ o
none_touched p k n o (Write x) elsewhere = refl
none_touched p k n o (Fix q x) elsewhere = let other : (q == p) ≡ false = grind (arith, nat_tests, elsewhere) in rw other refl
none_touched p k n o (Late q x) elsewhere = refl

same_elsewhere : (book : List Entry) (e : Entry) → IsSameElsewhere (touched_at (length book) e) (value_in (book ++ e ∷ [])) (value_in book)
same_elsewhere book e h x elsewhere =
    ap (λ by. item_value (counted h) (state_after h).ends.striker by x.place x.item)
    (last_fix-push x.place 0 None book e ∙ none_touched x.place (0 + length book) (length book) (corrected_at book x.place) e elsewhere)

news_from-push : (book : List Entry) (e : Entry) → news_from (book ++ e ∷ []) ≡ index_of (touched_at (length book) e) (clean_items_of (book ++ e ∷ []))
news_from-push book e =
    let now = book ++ e ∷ [] in
    let long : length (book ++ e ∷ []) - 1 ≡ length book = grind (arith, length-append book (e ∷ [])) in
    ap (first_new now) (ap (slice_get now) long ∙ slice_get-last book e) ∙ ap (λ n. index_of (touched_at n e) (clean_items_of now)) long

pub news_spliced : (n : ℕ) (book : List Entry) (e : Entry) → IsLegalBook n book → book_refusal n book e ≡ None
    → take (news_from (book ++ e ∷ [])) (book_items book) ++ drop (news_from (book ++ e ∷ [])) (book_items (book ++ e ∷ [])) ≡ book_items (book ++ e ∷ [])
news_spliced n book e legal taken =
    let now = book ++ e ∷ [] in
    let p = touched_at (length book) e in
    let is = clean_items_of-push n book e legal (is_named n book e taken) in
    let before = subst (λ xs. IsSameBefore p xs (clean_items_of book)) (sym is) (same_before book e (clean_items_of book)) in
    let same = values_same p (value_in now) (value_in book) (same_elsewhere book e) [] (clean_items_of now) (clean_items_of book) before in
    let at = subst (λ k. take k (book_items now) ≡ take k (book_items book)) (sym (news_from-push book e)) same in
    ap (λ front. front ++ drop (news_from now) (book_items now)) (sym at) ∙ take-append-drop (news_from now) (book_items now)
