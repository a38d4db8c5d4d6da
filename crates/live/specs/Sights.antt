-- What is shown of a board.
use Rattle.std.specs.Prelude.{ℕ, List, Option}
use Rattle.notation.specs.declared.entry.Entry.{Entry}
use Rattle.cards.specs.Sheet.{Sheet}
use Rattle.board.specs.declared.trouble.Trouble.{Trouble}

-- a board's book as handed over to be shown, with its match's sheet and innings a side, and what keeps the board from going on,
-- if anything: its six lines and its state are made of these alone
pub record Sight : Type 0 where
  pub sheet : Sheet
  pub innings : ℕ
  pub book : List Entry
  pub trouble : Option Trouble

abbrev pub sight_of : Sheet → ℕ → List Entry → Option Trouble → Sight
sight_of s innings book trouble = record { sheet = s; innings = innings; book = book; trouble = trouble }
