-- The bytes of a list, added one element at a time.
use Rattle.std.proofs.Common.{◌≡◌, ◌<◌, ◌≤◌, ◌+◌, ◌++◌, ◌∷◌, [], ℕ, List, drop, length, get_or, sym, ap, ◌∙◌, append_assoc, append-nil}
use Rattle.std.proofs.lemmas.List.{drop_all, drop_more}

module _ {X : Type 0} (part : List X → List ℕ) (xs : List X) (i : ℕ) (k all : List ℕ) (rest : k ++ part (drop i xs) ≡ all) where
  -- the bytes so far with one more element's, and those of the elements that are left, are all bytes
  pub added : ((x : X) (ys : List X) → part (x ∷ ys) ≡ part (x ∷ []) ++ part ys) → (x : X) → i < length xs
      → (k ++ part (get_or xs i x ∷ [])) ++ part (drop (i + 1) xs) ≡ all
  added parts x lt = rw (append_assoc, ← parts (get_or xs i x) (drop (i + 1) xs), ← drop_more xs i x lt) rest

  pub all_added : part [] ≡ [] → length xs ≤ i → k ≡ all
  all_added none end = sym (append-nil k) ∙ ap (λ ys. k ++ ys) (sym (ap part (drop_all i xs end) ∙ none)) ∙ rest
