-- What `compare` prints of both desks' votes files, and why nothing is printed: s is the sheet, a and b are the files.
use Rattle.std.specs.Prelude.{◌≡◌, is_some, ℕ, Bool, true, false, List, Option}
use Rattle.agree_core.specs.declared.messages.DeskId.{DeskId}
use Rattle.agree_core.specs.declared.messages.DeskId.TheVariants.{B}
use Rattle.cards.specs.Sheet.{Sheet}
use Rattle.streams.specs.declared.{input.InputFault.InputFault, watched.Watched.Watched}
use Rattle.streams.specs.Watched.{Prints}
use Rattle.books.specs.BothFiles.{WhyNoBookOfBoth, WhyNotOpened}
use Rattle.books.specs.Comparing.{IsComparison, comparison_text}
use Rattle.books.specs.declared.{compare.Comparison.Comparison, fault.BothFault.BothFault}
use Rattle.setup.specs.declared.fault.StopFault.{StopFault}
use Rattle.commands.specs.declared.both_files.BothPrintFault.{BothPrintFault}
use Rattle.commands.specs.declared.both_files.BothPrintFault.TheVariants.{NoMemory, Read, Write, Book}

-- the comparison of both files is written; refused says whether they aren't of one history
pub record PrintsComparison
    {S : Type 0} (contents : S → Option (List ℕ)) (old new : Watched S) (s : Sheet) (a b : List ℕ) (refused : Bool) : Type 0 where
  pub comparison : Comparison
  pub made : IsComparison s.game a b comparison
  pub written : Prints contents old new (comparison_text comparison.agreed comparison.differences.items comparison.torn)
  pub torn : refused ≡ is_some comparison.torn

-- the fault of a desk's file that isn't read to its end
abbrev pub of_input : DeskId → InputFault → BothPrintFault
of_input desk InputFault.NoMemory = NoMemory
of_input desk InputFault.Read = Read desk

-- the fault of a product that isn't printed: out of memory, or else a write failed
abbrev pub of_printing : StopFault → BothPrintFault
of_printing StopFault.NoMemory = NoMemory
of_printing why = Write

-- the fault where both files have no book: out of memory is a fault of its own
abbrev pub of_book : BothFault → BothPrintFault
of_book BothFault.NoMemory = NoMemory
of_book why = Book why

-- out of memory, or a read failed
abbrev pub IsOfReading : BothPrintFault → Type 0
IsOfReading NoMemory = Unit {0}
IsOfReading (Read desk) = Unit {0}
IsOfReading Write = ⊥
IsOfReading (Book why) = ⊥

-- out of memory, a read or a write failed, or both files have no book for this reason
abbrev pub WhyNotBoth : Sheet → List ℕ → List ℕ → BothPrintFault → Type 0
WhyNotBoth s a b NoMemory = Unit {0}
WhyNotBoth s a b (Read desk) = Unit {0}
WhyNotBoth s a b Write = Unit {0}
WhyNotBoth s a b (Book why) = WhyNoBookOfBoth s a b why

-- out of memory, a read or a write failed, or a file is refused for this reason
abbrev pub WhyNotCompared : Sheet → List ℕ → List ℕ → BothPrintFault → Type 0
WhyNotCompared s a b NoMemory = Unit {0}
WhyNotCompared s a b (Read desk) = Unit {0}
WhyNotCompared s a b Write = Unit {0}
WhyNotCompared s a b (Book why) = WhyNotOpened s.game a b why

-- whether the file of desk B is at fault
abbrev pub is_of_second : BothPrintFault → Bool
is_of_second (Read B) = true
is_of_second (Book (BothFault.Votes B why)) = true
is_of_second fault = false

-- the fault that standard error is told, and that decides the status
abbrev pub stop_of : BothPrintFault → StopFault
stop_of NoMemory = StopFault.NoMemory
stop_of (Read desk) = StopFault.Read
stop_of Write = StopFault.Write
stop_of (Book BothFault.NoMemory) = StopFault.NoMemory
stop_of (Book (BothFault.Votes desk why)) = StopFault.VotesNamed why
stop_of (Book (BothFault.NotOneHistory place)) = StopFault.NotOneHistory place
stop_of (Book (BothFault.BadVotes place)) = StopFault.BadVotes place
