-- The two seats at the table, and the book that both have agreed.
use Rattle.std.specs.Prelude.{◌≡◌, ℕ, List, length, Result, Ok, Err, IsOk}
use Rattle.notation.specs.declared.entry.Entry.{Entry}
use Rattle.agree_core.specs.declared.messages.DeskId.TheVariants.{A, B}
use Rattle.books.specs.declared.{table.Table.Table, rejected.Rejected.Rejected}
use Rattle.books.specs.inner.Seats.{free_at}

-- the entries that both desks have agreed
abbrev pub agreed_in : Table → List Entry
agreed_in table = table.book.entries

-- the innings a side
abbrev pub innings_in : Table → ℕ
innings_in table = table.book.innings_a_side

-- both seats are free at the place of the next entry
pub record IsInStep (table : Table) : Type 0 where
  pub first : table.a ≡ free_at A (length (agreed_in table))
  pub second : table.b ≡ free_at B (length (agreed_in table))

-- the table answers whether a line was taken, and if not, why
abbrev pub IsToldOf : Result (Unit {0}) Rejected → Result Entry Rejected → Type 0
IsToldOf (Ok _) answer = IsOk answer
IsToldOf (Err why) answer = answer ≡ Err why
