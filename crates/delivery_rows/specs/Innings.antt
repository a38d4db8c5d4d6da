-- The parts of an innings whose rows are written.
use Rattle.std.specs.Prelude.{ℕ, List}
use Rattle.notation.specs.declared.entry.Side.{Side}
use Rattle.cards.specs.Sheet.{Sheet}
use Rattle.archive_deliveries.specs.declared.begun.Begun.{Begun}
use Rattle.archive_deliveries.specs.Innings as named
use Rattle.delivery_rows.specs.declared.table_innings.TableInnings.{TableInnings}

-- f of the sheet, the day, the side that bats, the innings that each side began first and last, and the innings' number
abbrev pub of : {X : Type 0} → TableInnings → (Sheet → List ℕ → Side → Begun → ℕ → X) → X
of innings f = named.of innings.named (λ s. f s innings.day.now)
