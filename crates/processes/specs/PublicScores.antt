-- What the public sees of a match: the scores that its boards print and hand over to be shown.
use Rattle.std.specs.Prelude.{◌≡◌, ◌≤◌, ◌⊎◌, ℕ, Some, List, [], All, slice_get}
use Rattle.notation.specs.declared.entry.Entry.{Entry}
use Rattle.match_laws.specs.declared.standing.Standing.{Standing}
use Rattle.corrections.specs.CleanList.{history_of}
use Rattle.corrections.specs.Legal.{IsScoreOf}
use Rattle.cards.specs.Sheet.{Sheet}
use Rattle.cards.specs.Board.{board as board_text}
use Rattle.agree_core.specs.Agreed.{EqualVotes}
use Rattle.headline.specs.Configurations.{Configuration, all_votes}
use Rattle.live.specs.Sights.{Sight}
use Rattle.processes.specs.Happenings.{BoardCalled, BoardGreeted, Happening, after_one}

-- Both scorers wrote this book: for each of its entries both desks have voted in one round; and in a match of one or two
-- innings a side the book has a score by the Laws.
pub record IsOfBoth {Disk : Type 0} (innings : ℕ) (v : Configuration Disk) (book : List Entry) : Type 0 where
  pub by_both : (place : ℕ) (e : Entry) → slice_get book place ≡ Some e → (round : ℕ) × EqualVotes (all_votes v) place round e
  pub scored : 1 ≤ innings → innings ≤ 2 → (score : Standing) × IsScoreOf score innings book

-- the text is the six lines of such a book, or nothing
abbrev pub PrintsOfBoth : {Disk : Type 0} → ℕ → Configuration Disk → Sheet → List ℕ → Type 0
PrintsOfBoth innings v s text =
    (text ≡ []) ⊎ ((book : List Entry) × IsOfBoth innings v book × (text ≡ board_text s innings (history_of book)))

-- what is handed over to be shown is such a book, by this sheet
abbrev pub IsSightOfBoth : {Disk : Type 0} → ℕ → Configuration Disk → Sheet → Sight → Type 0
IsSightOfBoth innings v s sight = (sight.sheet ≡ s) × (sight.innings ≡ innings) × IsOfBoth innings v sight.book

abbrev pub ShowsOfBoth : {Disk : Type 0} → ℕ → Configuration Disk → Sheet → List ℕ → List Sight → Type 0
ShowsOfBoth innings v s text seen = PrintsOfBoth innings v s text × All (IsSightOfBoth innings v s) seen

-- whatever a board prints and hands over is of such books
abbrev pub ShowsAgreed : {Disk : Type 0} → ℕ → Configuration Disk → Happening Disk → Type 0
ShowsAgreed innings w (BoardGreeted n s text seen) = ShowsOfBoth innings w s text seen
ShowsAgreed innings w (BoardCalled n s call out l text seen) =
    ShowsOfBoth innings (after_one w (BoardCalled n s call out l text seen)) s text seen
ShowsAgreed innings w what = Unit {0}
