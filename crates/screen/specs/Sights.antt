-- What is shown of a desk, beside the rows that it prints.
use Rattle.std.specs.Prelude.{ℕ, List, Option}
use Rattle.notation.specs.declared.entry.Entry.{Entry}
use Rattle.agree_core.specs.declared.position.Position.{Position}
use Rattle.cards.specs.Sheet.{Sheet}

-- what a scorer may see of a desk: its book, its position and its own vote there, with the sheet and the innings a side of
-- its match, and nothing of the other desk's vote
pub record DeskSight : Type 0 where
  pub sheet : Sheet
  pub innings : ℕ
  pub book : List Entry
  pub at : Position
  pub own : Option Entry

abbrev pub sight_at : Sheet → ℕ → List Entry → Position → Option Entry → DeskSight
sight_at s n book at own = record { sheet = s; innings = n; book = book; at = at; own = own }
