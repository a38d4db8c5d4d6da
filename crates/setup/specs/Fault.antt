-- Why a command ended: the lines that standard error has of it, and whether something is refused.
use Rattle.std.specs.Prelude.{ℕ, ⊤, List, ◌++◌, codes, decimal, Bool, true, false, Option, Some, None}
use Rattle.streams.specs.declared.input.InputFault.{InputFault}
use Rattle.cards.specs.SheetFault as sheet
use Rattle.cards.specs.declared.fault.SheetFault.{SheetFault}
use Rattle.schedules.specs.ScheduleFault as schedule
use Rattle.schedules.specs.declared.schedule_fault.ScheduleFault.{ScheduleFault}
use Rattle.vote_store.specs.Refusal.{number, name}
use Rattle.vote_store.specs.declared.refusal.Refusal.{Refusal}
use Rattle.entry_log.specs.declared.refusal.Refusal.TheVariants as files
use Rattle.desk.specs.declared.refusal.OpenRefusal.{OpenRefusal}
use Rattle.books.specs.declared.fault.BookFault.{BookFault}
use Rattle.books.specs.OneHistory.{torn_line}
use Rattle.books.specs.Rejected.{rejection_line}
use Rattle.machine_files.specs.WriteFault.{ending_of, words_of}
use Rattle.machine_files.specs.declared.write_fault.{Cause.Cause, WriteFault.WriteFault}
use Rattle.machine_files.specs.declared.write_fault.Cause.TheVariants as causes
use Rattle.setup.specs.KeyOwners.{file_name}
use Rattle.setup.specs.declared.key_fault.KeyFault.{KeyFault}
use Rattle.setup.specs.declared.key_fault.KeyFault.TheVariants as keys
use Rattle.setup.specs.declared.key_owner.KeyOwner.{KeyOwner}
use Rattle.setup.specs.declared.fault.{StopFault.StopFault, TheConstants.TURNS}
use Rattle.setup.specs.declared.fault.StopFault.TheVariants.{NoMemory, Read, Write, Sheet, SheetTold, Schedule, Votes, VotesNamed, BadVotes, NotOneHistory, FilesDiffer, Line, NotAgreed, Listen, Disk, FileMoved, File, PairKeys, Lost, CopyLost, Key}

-- an input can't be read to its end
abbrev pub of_input : InputFault → StopFault
of_input InputFault.NoMemory = NoMemory
of_input InputFault.Read = Read

-- a sheet is refused; no memory is a fault of its own
abbrev pub of_sheet : SheetFault → StopFault
of_sheet SheetFault.NoMemory = NoMemory
of_sheet why = Sheet why

-- a schedule is refused; no memory is a fault of its own
abbrev pub of_schedule : ScheduleFault → StopFault
of_schedule ScheduleFault.NoMemory = NoMemory
of_schedule why = Schedule why

-- no memory, or a failed read or write
abbrev pub IsOfStreams : StopFault → Type 0
IsOfStreams NoMemory = ⊤
IsOfStreams Read = ⊤
IsOfStreams Write = ⊤
IsOfStreams fault = ⊥

-- a votes file is refused; no memory is a fault of its own, and a failing disk is a failed write
abbrev pub of_votes : Refusal → StopFault
of_votes Refusal.NoMemory = NoMemory
of_votes (Refusal.File files.Device) = Write
of_votes why = Votes why

-- a desk can't be made from a votes file
abbrev pub of_opening : OpenRefusal → StopFault
of_opening (OpenRefusal.Votes why) = of_votes why
of_opening (OpenRefusal.BadVotes place) = BadVotes place

-- an input holds no book
abbrev pub of_book : BookFault → StopFault
of_book BookFault.NoMemory = NoMemory
of_book (BookFault.Votes why) = Votes why
of_book (BookFault.BadVotes place) = BadVotes place
of_book (BookFault.Line number why) = Line number why

-- whether a votes file is refused for what it holds, and no memory or disk is to blame
abbrev pub is_file_refusal : Refusal → Bool
is_file_refusal Refusal.NoMemory = false
is_file_refusal (Refusal.File files.Device) = false
is_file_refusal why = true

-- whether a sheet, a schedule, a votes file or a line is refused for what it holds or lacks, and no memory, stream, socket or disk
-- is to blame
abbrev pub is_refusal : StopFault → Bool
is_refusal (Sheet SheetFault.NoMemory) = false
is_refusal (Sheet why) = true
is_refusal SheetTold = true
is_refusal (Schedule ScheduleFault.NoMemory) = false
is_refusal (Schedule why) = true
is_refusal (Votes why) = is_file_refusal why
is_refusal (VotesNamed why) = is_file_refusal why
is_refusal (BadVotes place) = true
is_refusal (NotOneHistory place) = true
is_refusal (FilesDiffer place) = true
is_refusal (Line number why) = true
is_refusal fault = false

-- the line of a refusal: what is refused, its number and its name
abbrev pub refusal_line : List ℕ → ℕ → List ℕ → List ℕ
refusal_line what n called = what ++ codes ": " ++ decimal n ++ codes " " ++ called ++ codes "\n"

-- no memory has no number
abbrev pub numbered_line : List ℕ → Option ℕ → List ℕ → List ℕ
numbered_line what (Some n) called = refusal_line what n called
numbered_line what None called = codes "no memory\n"

abbrev pub sheet_line : SheetFault → List ℕ
sheet_line why = numbered_line (codes "sheet") (sheet.number_of why) (sheet.name_of why)

-- the line of a sheet that is refused, with what is wrong in words
abbrev pub worded : Option ℕ → List ℕ → List ℕ → List ℕ
worded (Some n) called words = codes "sheet: " ++ decimal n ++ codes " " ++ called ++ codes ": " ++ words ++ codes "\n"
worded None called words = codes "no memory\n"

abbrev pub worded_line : SheetFault → List ℕ → List ℕ
worded_line why words = worded (sheet.number_of why) (sheet.name_of why) words

abbrev pub schedule_line : ScheduleFault → List ℕ
schedule_line why = numbered_line (codes "schedule") (schedule.number_of why) (schedule.name_of why)

-- a failing disk has the line of a failed write
abbrev pub votes_line : Refusal → List ℕ
votes_line (Refusal.File files.Device) = codes "cannot write\n"
votes_line why = numbered_line (codes "votes") (number why) (name why)

-- the line of one of two votes files, which it names
abbrev pub named_votes_line : List ℕ → Refusal → List ℕ
named_votes_line path (Refusal.File files.Device) = codes "cannot write\n"
named_votes_line path why = numbered_line (codes "votes " ++ path) (number why) (name why)

-- the line of a place that wasn't agreed in this many turns of each station
abbrev pub turns_line : ℕ → ℕ → List ℕ
turns_line place turns = codes "place " ++ decimal place ++ codes " not agreed in " ++ decimal turns ++ codes " turns\n"

-- the line of a file that can't be written: which file, and why
abbrev pub file_line : List ℕ → WriteFault → List ℕ
file_line path fault =
    codes "cannot write: " ++ path ++ ending_of fault.name ++ codes ": " ++ words_of fault.why ++ codes "\n"

-- the lines of a running desk's file that can't be written: which file, why, and what its scorer is to do
abbrev pub loss_lines : List ℕ → WriteFault → List ℕ
loss_lines path fault =
    codes "cannot write: " ++ path ++ ending_of fault.name ++ codes ": " ++ words_of fault.why
    ++ codes "\nstart the same command again\n"

-- the lines of its copy that can't be written: which file, why, and how to go on without it
abbrev pub copy_loss_lines : List ℕ → WriteFault → List ℕ
copy_loss_lines path fault =
    codes "cannot write: " ++ path ++ ending_of fault.name ++ codes ": " ++ words_of fault.why
    ++ codes "\nthis is the copy: to go on without it, start the same command without --copy\n"

abbrev pub key_words : KeyFault → List ℕ
key_words keys.NotAFile = codes "isn't a plain file"
key_words keys.Sheet = codes "is the sheet"
key_words keys.Votes = codes "is a votes file"
key_words keys.Short = codes "a key has 16 bytes or more"
key_words keys.Long = codes "a key has 1024 bytes or fewer"
key_words keys.Alike = codes "a key has 8 different bytes or more"
key_words keys.NoPair = codes "isn't as ground key wrote it"
key_words keys.OfDeskA = codes "is the key of desk a"
key_words keys.OfDeskB = codes "is the key of desk b"
key_words keys.OfBoard = codes "is the key of a board"

-- the line of a file of new keys in a folder that can't be written, and why
abbrev pub pair_file_line : List ℕ → KeyOwner → Cause → List ℕ
pair_file_line path owner why = codes "cannot write: " ++ path ++ file_name owner ++ codes ": " ++ words_of why ++ codes "\n"

-- the line of a file that has no key, and why
abbrev pub no_key_line : List ℕ → KeyFault → List ℕ
no_key_line path why = codes "cannot read " ++ path ++ codes ": " ++ key_words why ++ codes "\n"

-- the lines of a fault that was met at this file or address
abbrev pub fault_line : List ℕ → StopFault → List ℕ
fault_line path NoMemory = codes "no memory\n"
fault_line path Read = codes "cannot read " ++ path ++ codes "\n"
fault_line path Write = codes "cannot write\n"
fault_line path (Sheet why) = sheet_line why
fault_line path SheetTold = codes ""
fault_line path (Schedule why) = schedule_line why
fault_line path (Votes why) = votes_line why
fault_line path (VotesNamed why) = named_votes_line path why
fault_line path (BadVotes place) = codes "votes: 64 BadVotes\n"
fault_line path (NotOneHistory place) = torn_line place
fault_line path (FilesDiffer place) = codes "votes: the two files differ at place " ++ decimal place ++ codes "\n"
fault_line path (Line number why) = rejection_line number why
fault_line path (NotAgreed place) = turns_line place TURNS
fault_line path Listen = codes "cannot listen at " ++ path ++ codes "\n"
fault_line path Disk = codes "cannot write\nstart the same command again\n"
fault_line path FileMoved = codes "cannot write\nits file was moved, deleted or replaced: put it back\n"
fault_line path (File why) = file_line path why
fault_line path (PairKeys owner why) = pair_file_line path owner why
fault_line path (Lost why) = loss_lines path why
fault_line path (CopyLost why) = copy_loss_lines path why
fault_line path (Key why) = no_key_line path why

-- the fault of a running desk that has lost its file, or can't write it
abbrev pub lost_for : WriteFault → Cause → StopFault
lost_for fault causes.Lost = FileMoved
lost_for fault why = Lost fault

-- the fault of a run that can't write its file, with the cause if that is known
abbrev pub with_cause : StopFault → Option WriteFault → StopFault
with_cause Write (Some why) = File why
with_cause Disk (Some why) = lost_for why why.why
with_cause fault why = fault

-- the fault of a run that can't write its file's copy, with the cause if that is known
abbrev pub with_copys_cause : StopFault → Option WriteFault → StopFault
with_copys_cause Write (Some why) = File why
with_copys_cause Disk (Some why) = CopyLost why
with_copys_cause fault why = fault

-- the fault with a refused votes file named, if it is one of two
abbrev pub named : StopFault → StopFault
named (Votes why) = VotesNamed why
named fault = fault
