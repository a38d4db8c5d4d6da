-- The match sheet that a file has.
use Rattle.std.specs.Prelude.{◌≢◌, ℕ, List, ⊤, Result, Ok, Err}
use Rattle.cards.specs.Sheet as sheets
use Rattle.cards.specs.Reading.{IsReading}
use Rattle.cards.specs.declared.fault.SheetFault.{SheetFault}
use Rattle.setup.specs.declared.fault.StopFault.{StopFault}
use Rattle.setup.specs.declared.fault.StopFault.TheVariants.{NoMemory, Read, Sheet}

-- the sheet, or its fault, is what the bytes of the file are read as
abbrev pub Tells : List ℕ → Result sheets.Sheet StopFault → Type 0
Tells bytes (Ok sheet) = IsReading bytes (Ok sheet)
Tells bytes (Err (Sheet why)) = IsReading bytes (Err why)
Tells bytes (Err fault) = ⊤

-- the sheet is what these bytes are read as
pub record IsSheetOf (bytes : List ℕ) (sheet : sheets.Sheet) : Type 0 where
  pub is : IsReading bytes (Ok sheet)

-- the fault is no memory, a failed read, or a refused sheet (which is never refused for lack of memory)
abbrev pub IsSheetFault : StopFault → Type 0
IsSheetFault NoMemory = ⊤
IsSheetFault Read = ⊤
IsSheetFault (Sheet why) = why ≢ SheetFault.NoMemory
IsSheetFault fault = ⊥
