-- A token before and after the cut.
use Rattle.std.proofs.Common.{◌≡◌, ℕ, List, [], ◌∷◌, ◌++◌, refl}
use Rattle.shorthand.specs.Marks.{cut}

pub cut_append : (xs : List ℕ) (x : ℕ) → cut (xs ++ x ∷ []) ≡ (xs, x ∷ [])
cut_append [] x = refl
cut_append (a ∷ []) x = refl
cut_append (a ∷ b ∷ xs) x = rw (cut_append (b ∷ xs) x) refl
