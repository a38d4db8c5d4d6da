-- Notation for functions of an innings, and of an item with the items that it carries.
use Rattle.std.specs.Prelude.{ℕ, List}
use Rattle.notation.specs.declared.entry.Side.{Side}
use Rattle.cards.specs.Sheet.{Sheet}
use Rattle.archive_deliveries.specs.declared.{begun.Begun.Begun, innings.Carrier.Carrier, innings.NamedInnings.NamedInnings, notes.Noted.Noted}

-- f of the sheet, the side that bats, the innings that each side has begun, and the number of this innings
abbrev pub of : {X : Type 0} → NamedInnings → (Sheet → Side → Begun → ℕ → X) → X
of innings f = f innings.sheet.now innings.side innings.begun.now innings.index

-- f of the items before the first delivery, the item itself, and the items up to the next delivery
abbrev pub with : {X : Type 0} → Carrier → (List Noted → Noted → List Noted → X) → X
with carrier f = f carrier.early.now carrier.noted.now carrier.late.now
