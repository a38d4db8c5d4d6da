-- The entry of a book that corrects another.
use Rattle.std.specs.Prelude.{ℕ, ◌+◌, ◌==◌, if◌then◌else◌, List, [], ◌∷◌, Option, Some, None}
use Rattle.notation.specs.declared.entry.Entry.{Entry}
use Rattle.notation.specs.declared.entry.Entry.TheVariants.{Write, Fix, Late}

-- k if the entry is a `fix` of place p, else the place found before
abbrev pub fix_or : ℕ → ℕ → Option ℕ → Entry → Option ℕ
fix_or p k before (Fix q x) = if q == p then Some k else before
fix_or p k before (Write x) = before
fix_or p k before (Late q x) = before

-- the place of the last `fix` of place p in a part of the book, numbered from k; if there is none, the place found before
abbrev pub last_fix : ℕ → ℕ → Option ℕ → List Entry → Option ℕ
last_fix p k before [] = before
last_fix p k before (e ∷ es) = last_fix p (k + 1) (fix_or p k before e) es

-- the place of the entry that corrects the entry at place p, if it was corrected
abbrev pub corrected_at : List Entry → ℕ → Option ℕ
corrected_at book p = last_fix p 0 None book
