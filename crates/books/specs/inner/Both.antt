-- The parts of the book of both files.
use Rattle.std.specs.Prelude.{List, []}
use Rattle.notation.specs.declared.entry.Entry.{Entry}
use Rattle.agree_core.specs.Books.{FirstRefused, Rules}
use Rattle.books.specs.declared.fault.BothFault.{BothFault}
use Rattle.books.specs.declared.fault.BothFault.TheVariants.{NoMemory, NotOneHistory, Votes, BadVotes}

-- the fault names the first of these entries that is refused
abbrev pub NamesRefused : {Why : Type 0} → Rules Why → List Entry → BothFault → Type 0
NamesRefused rules list NoMemory = Unit {0}
NamesRefused rules list (Votes desk why) = ⊥
NamesRefused rules list (NotOneHistory place) = ⊥
NamesRefused rules list (BadVotes place) = FirstRefused rules [] list place
