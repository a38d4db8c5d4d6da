-- The places of a book's corrections.
use Rattle.std.specs.Prelude.{ℕ, zero, suc, if◌then◌else◌, List, [], ◌∷◌, ◌++◌, slice_get}
use Rattle.notation.specs.declared.entry.Entry.{Entry}
use Rattle.corrections.specs.Refusal.{is_fix}

-- the places below n of corrections, in their order
abbrev pub fix_places : List Entry → ℕ → List ℕ
fix_places book zero = []
fix_places book (suc n) = fix_places book n ++ (if is_fix (slice_get book n) then n ∷ [] else [])
