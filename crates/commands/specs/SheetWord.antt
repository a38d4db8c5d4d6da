-- What `sheet` prints: the sheet as it was read, where nothing is wrong with it, or all that is wrong.
use Rattle.std.specs.Prelude.{◌≢◌, ◌⊎◌, ℕ, Bool, true, false, List, [], Option, Ok, Err}
use Rattle.cards.specs.Reading.{IsReading}
use Rattle.cards.specs.Sheet.{Sheet}
use Rattle.cards.specs.declared.fault.SheetFault.{SheetFault}
use Rattle.sheet_check.specs.Reports.{IsReport}
use Rattle.sheet_check.specs.SheetRows.{shown_sheet}
use Rattle.streams.specs.declared.watched.Watched.{Watched}
use Rattle.streams.specs.Watched.{Prints}

-- something is wrong with the sheet of these bytes: its report isn't empty, or the sheet is refused
abbrev pub IsWrong : List ℕ → List ℕ → Type 0
IsWrong bytes report = (report ≢ []) ⊎ ((why : SheetFault) × IsReading bytes (Err why))

-- what is printed for a sheet of these bytes; the Bool says whether something is wrong with it
abbrev pub PrintsSheet : {S : Type 0} → (S → Option (List ℕ)) → Watched S → Watched S → List ℕ → Bool → Type 0
PrintsSheet contents old new bytes false =
    IsReport bytes [] × ((sheet : Sheet) × (IsReading bytes (Ok sheet) × Prints contents old new (shown_sheet sheet)))
PrintsSheet contents old new bytes true =
    (report : List ℕ) × (IsReport bytes report × (IsWrong bytes report × Prints contents old new report))
