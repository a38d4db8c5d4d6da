-- The book of both desks' votes files: their agreed list, or why there is no book.
use Rattle.std.specs.Prelude.{◌≡◌, ℕ, List, [], Some, None, Ok, Err, IsOk}
use Rattle.notation.specs.declared.entry.Entry.{Entry}
use Rattle.corrections.specs.Refusal.{book_refusal}
use Rattle.agree_core.specs.declared.messages.DeskId.{DeskId}
use Rattle.agree_core.specs.declared.messages.DeskId.TheVariants.{A, B}
use Rattle.agree_core.specs.Agreed.{IsAgreedList}
use Rattle.agree_core.specs.Ballots.{AllVotes}
use Rattle.agree_core.specs.Books.{AllTaken, FirstRefused}
use Rattle.vote_store.specs.declared.refusal.Refusal.{Refusal}
use Rattle.cards.specs.Sheet.{Sheet}
use Rattle.books.specs.CardBook.{votes_in_file}
use Rattle.books.specs.declared.fault.BothFault.{BothFault}
use Rattle.books.specs.declared.fault.BothFault.TheVariants.{NoMemory, NotOneHistory, Votes, BadVotes}
use Rattle.books.specs.OneHistory.{Tears}

-- the files of both desks of a match have these votes
pub record HaveVotes (game : ℕ) (a b : List ℕ) (votes : AllVotes) : Type 0 where
  pub first : votes_in_file A game a ≡ Ok votes.a
  pub second : votes_in_file B game b ≡ Ok votes.b

-- the votes of both files are of one history, and this book is their agreed list, and legal
pub record IsBookOfBoth (s : Sheet) (a b : List ℕ) (book : List Entry) : Type 0 where
  pub votes : AllVotes
  pub read : HaveVotes s.game a b votes
  pub whole : Tears votes None
  pub agreed : IsAgreedList votes book
  pub taken : AllTaken (book_refusal s.innings) [] book

-- the votes of both files aren't of one history, from this place on
pub record IsTornFrom (game : ℕ) (a b : List ℕ) (place : ℕ) : Type 0 where
  pub votes : AllVotes
  pub read : HaveVotes game a b votes
  pub torn : Tears votes (Some place)

-- the votes of both files are of one history, but their agreed list is first refused at this place
pub record IsRefusedAt (s : Sheet) (a b : List ℕ) (place : ℕ) : Type 0 where
  pub votes : AllVotes
  pub read : HaveVotes s.game a b votes
  pub whole : Tears votes None
  pub list : List Entry
  pub agreed : IsAgreedList votes list
  pub refused : FirstRefused (book_refusal s.innings) [] list place

-- the fault of the first of the two files that is refused
abbrev pub WhyNotOpened : ℕ → List ℕ → List ℕ → BothFault → Type 0
WhyNotOpened game a b NoMemory = Unit {0}
WhyNotOpened game a b (Votes A why) = votes_in_file A game a ≡ Err why
WhyNotOpened game a b (Votes B why) = IsOk (votes_in_file A game a) × (votes_in_file B game b ≡ Err why)
WhyNotOpened game a b (NotOneHistory place) = ⊥
WhyNotOpened game a b (BadVotes place) = ⊥

-- first a file's fault; then the first place that isn't of one history; then the first place at which the agreed
-- list isn't legal
abbrev pub WhyNoBookOfBoth : Sheet → List ℕ → List ℕ → BothFault → Type 0
WhyNoBookOfBoth s a b (NotOneHistory place) = IsTornFrom s.game a b place
WhyNoBookOfBoth s a b (BadVotes place) = IsRefusedAt s a b place
WhyNoBookOfBoth s a b fault = WhyNotOpened s.game a b fault

-- the fault of a desk's refused votes file; being out of memory is a fault of its own
abbrev pub of_file : DeskId → Refusal → BothFault
of_file desk Refusal.NoMemory = NoMemory
of_file desk why = Votes desk why
