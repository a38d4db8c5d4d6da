-- How a sheet's text is read for the export: as its table, where its `info` and `meta` are fine.
use Rattle.std.specs.Prelude.{◌≡◌, ◌⊎◌, ℕ, if◌then◌else◌, List, Result, Ok, Err, String}
use Rattle.std.specs.BTreeMap.{BTreeMap}
use Rattle.std.specs.declared.alloc.Global.{Global}
use Rattle.toml.specs.Data.{Members}
use Rattle.toml.specs.View.{table_view}
use Rattle.toml.specs.declared.value.Value.{Value}
use Rattle.cards.specs.declared.fault.SheetFault.{SheetFault}
use Rattle.cards.specs.declared.fault.SheetFault.TheVariants.{NotToml, WrongKind}
use Rattle.cards.specs.Reading.{HasNoTable, HasTable, Reads}
use Rattle.sheet_check.specs.Handed.{is_fine_document}

-- a document that isn't fine has one fault, whichever key is wrong
abbrev pub checked : Members → Result Members SheetFault
checked ms = if is_fine_document ms then Ok ms else Err WrongKind

-- the answer for the bytes of a sheet
abbrev pub IsDocument : List ℕ → Result (BTreeMap (String Global) Value) SheetFault → Type 0
IsDocument bytes answer =
    (HasNoTable bytes × (answer ≡ Err NotToml))
    ⊎ ((ms : Members) × (HasTable bytes ms × Reads table_view answer (checked ms)))
