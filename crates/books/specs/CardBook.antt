-- The book of an input, or why there is none.
use Rattle.std.specs.Prelude.{◌≡◌, ℕ, ◌+◌, ◌==◌, if◌then◌else◌, List, [], ◌∷◌, ◌++◌, Option, Some, None, Result, Ok, Err, slice_get, unwrap_or}
use Rattle.notation.specs.declared.entry.Entry.{Entry}
use Rattle.corrections.specs.Refusal.{book_refusal}
use Rattle.agree_core.specs.declared.messages.DeskId.{DeskId}
use Rattle.agree_core.specs.Ballots.{Ballot, desk_number}
use Rattle.agree_core.specs.Books.{AllTaken, FirstRefused, Rules, book_of, voted_list}
use Rattle.entry_log.specs.Format.{contents}
use Rattle.entry_log.specs.Version1.{version_1}
use Rattle.entry_log.specs.Version2.{version_2}
use Rattle.vote_store.specs.declared.refusal.Refusal.{Refusal}
use Rattle.vote_store.specs.Sequence.{file_votes}
use Rattle.cards.specs.Sheet.{Sheet}
use Rattle.desk.specs.declared.refusal.OpenRefusal.{OpenRefusal}
use Rattle.books.specs.declared.{fault.BookFault.BookFault, rejected.Rejected.Rejected, source.Source.Source}
use Rattle.books.specs.declared.fault.BookFault.TheVariants.{NoMemory, Line, Votes, BadVotes}
use Rattle.books.specs.declared.source.Source.TheVariants.{Lines}
use Rattle.notation.specs.Lines.{lines_of}
use Rattle.books.specs.Taking.{answer_to, book_after}

-- the number of the first of these lines that isn't taken, and why; lines are numbered from n, and `book` has
-- the entries taken before
abbrev pub first_rejected : ℕ → ℕ → List Entry → List (List ℕ) → Option (ℕ × Rejected)
first_rejected innings n book [] = None
first_rejected innings n book (line ∷ lines) = elim (answer_to innings book line) [
  | Ok e ↦ first_rejected innings (n + 1) (book ++ e ∷ []) lines
  | Err why ↦ Some (n, why)
]

-- each line of an input is taken, and these are the entries of the lines
pub record IsBookOfLines (innings : ℕ) (input : List ℕ) (book : List Entry) : Type 0 where
  pub taken : first_rejected innings 1 [] (lines_of input) ≡ None
  pub entries : book ≡ book_after innings [] (lines_of input)

-- the fault names the first line that isn't taken, and why
abbrev pub NamesFirstRejected : ℕ → List ℕ → BookFault → Type 0
NamesFirstRejected innings input (Line number why) = first_rejected innings 1 [] (lines_of input) ≡ Some (number, why)
NamesFirstRejected innings input _ = ⊥

abbrev pub WhyNoBookOfLines : ℕ → List ℕ → BookFault → Type 0
WhyNoBookOfLines innings input NoMemory = Unit {0}
WhyNoBookOfLines innings input fault = NamesFirstRejected innings input fault

-- the votes in a desk's file of a match, in the version that byte 7 of the file names
abbrev pub votes_in_file : DeskId → ℕ → List ℕ → Result (List Ballot) Refusal
votes_in_file desk game file =
    if unwrap_or (slice_get file 7) 0 == 1
    then file_votes (contents version_1) (desk_number desk) game file
    else file_votes (contents version_2) (desk_number desk) game file

-- the last votes of all places, the last voted one included, are a legal book, and this book has all of them but
-- that last one
pub record IsBookOf (innings : ℕ) (votes : List Ballot) (book : List Entry) : Type 0 where
  pub taken : AllTaken (book_refusal innings) [] (voted_list votes)
  pub entries : book ≡ book_of votes

-- these votes were read, and this is their book
abbrev pub IsBookOfVotes : ℕ → Result (List Ballot) Refusal → List Entry → Type 0
IsBookOfVotes innings (Ok votes) book = IsBookOf innings votes book
IsBookOfVotes innings (Err why) book = ⊥

-- the fault names the first place at which the list of each place's last vote isn't legal
abbrev pub NamesBadVotes : {Why : Type 0} → Rules Why → List Ballot → BookFault → Type 0
NamesBadVotes rules votes (BadVotes place) = FirstRefused rules [] (voted_list votes) place
NamesBadVotes rules votes _ = ⊥

-- the fault of the file that was read, or the first place at which its votes are no legal book
abbrev pub WhyNoBookOfVotes : ℕ → Result (List Ballot) Refusal → BookFault → Type 0
WhyNoBookOfVotes innings shown NoMemory = Unit {0}
WhyNoBookOfVotes innings (Err why) fault = fault ≡ Votes why
WhyNoBookOfVotes innings (Ok votes) fault = NamesBadVotes (book_refusal innings) votes fault

-- the book of an input, with the match and the innings of a sheet
abbrev pub IsBookFrom : Source → Sheet → List ℕ → List Entry → Type 0
IsBookFrom Lines s input book = IsBookOfLines s.innings input book
IsBookFrom (Source.Votes desk) s input book = IsBookOfVotes s.innings (votes_in_file desk s.game input) book

abbrev pub WhyNoBook : Source → Sheet → List ℕ → BookFault → Type 0
WhyNoBook Lines s input fault = WhyNoBookOfLines s.innings input fault
WhyNoBook (Source.Votes desk) s input fault = WhyNoBookOfVotes s.innings (votes_in_file desk s.game input) fault

-- the fault of a refused votes file; being out of memory is a fault of its own
abbrev pub of_votes : Refusal → BookFault
of_votes Refusal.NoMemory = NoMemory
of_votes why = Votes why

-- the fault of a file whose opening is refused, including votes that are no legal book
abbrev pub of_opening : OpenRefusal → BookFault
of_opening (OpenRefusal.Votes why) = of_votes why
of_opening (OpenRefusal.BadVotes place) = BadVotes place
