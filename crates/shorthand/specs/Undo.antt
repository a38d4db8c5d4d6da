-- The entry that `undo` makes void.
use Rattle.std.specs.Prelude.{ℕ, nat_lt, if◌then◌else◌, Option, None, Some, List, [], ◌∷◌}
use Rattle.notation.specs.declared.entry.Entry.{Entry}
use Rattle.match_laws.specs.History.{is_void}
use Rattle.corrections.specs.declared.placed.Placed.{Placed}
use Rattle.corrections.specs.CleanList.{clean_items_of}

-- the later of two places, of which the first may be missing
abbrev pub later : Option ℕ → ℕ → Option ℕ
later None p = Some p
later (Some q) p = if nat_lt q p then Some p else Some q

-- the last place after one more item; a void item doesn't count
abbrev pub with_item : Option ℕ → Placed → Option ℕ
with_item last x = if is_void x.item then last else later last x.place

abbrev pub last_with : Option ℕ → List Placed → Option ℕ
last_with last [] = last
last_with last (x ∷ xs) = last_with (with_item last x) xs

-- the place of the last entry that stands in the book
abbrev pub last_standing : List Entry → Option ℕ
last_standing book = last_with None (clean_items_of book)
