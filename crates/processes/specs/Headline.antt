-- The headline for processes: what holds whatever happens to them.
use Rattle.std.specs.Prelude.{◌≡◌, ◌≤◌, ◌⊎◌, ℕ, Some, List, [], ◌∷◌}
use Rattle.notation.specs.declared.entry.Entry.{Entry}
use Rattle.match_laws.specs.declared.standing.Standing.{Standing}
use Rattle.agree_core.specs.declared.messages.DeskId.{DeskId}
use Rattle.agree_core.specs.Agreed.{BeginsWith}
use Rattle.agree_core.specs.Ballots.{Ballot, In, votes_by}
use Rattle.agree_core.specs.Boards.{BoardState}
use Rattle.agree_core.specs.Desks.{DeskState}
use Rattle.headline.specs.declared.event.Station.{Station}
use Rattle.headline.specs.Configurations.{Running, Configuration, all_votes, board_at, node}
use Rattle.headline.specs.Runs.{Shows}
use Rattle.headline.specs.Headline.{ByBoth, AllHaveScores, ShowsScore}
use Rattle.live.specs.Desks as desks
use Rattle.station_texts.specs.Saying.{SaysEntry}
use Rattle.processes.specs.Happenings.{BoardCalled, BoardGreeted, DeskCalled, DeskGreeted, Happening, after}
use Rattle.processes.specs.LostLines.{ShowsNoLoss}
use Rattle.processes.specs.Noted.{KeepsNoted}
use Rattle.processes.specs.Parting.{NoVoteParts}
use Rattle.processes.specs.Printing.{Greets, Hands, Prints, Tells, greeting_of}
use Rattle.processes.specs.PublicScores.{ShowsAgreed}
use Rattle.processes.specs.SecondVotes.{AfterEach, AtEachHappening, NoneWaits, TakesSecond}

-- the property holds at the start, or after one of the happenings
abbrev pub AtSomeTime : {Disk : Type 0} → Configuration Disk → List (Happening Disk) → (Configuration Disk → Type 0) → Type 0
AtSomeTime w [] P = P w
AtSomeTime w (h ∷ hs) P = P (after w (h ∷ hs)) ⊎ AtSomeTime w hs P

-- the property holds at the start, and after each of the happenings
abbrev pub AtEachTime : {Disk : Type 0} → Configuration Disk → List (Happening Disk) → (Configuration Disk → Type 0) → Type 0
AtEachTime w [] P = P w
AtEachTime w (h ∷ hs) P = P (after w (h ∷ hs)) × AtEachTime w hs P

-- The desk was given a line of its scorer's, at the ballot's position, that says the ballot's entry: put in full, by the sheet
-- of the desk's process and the desk's book, it is the entry's line, or it repeats what this scorer wrote last.
abbrev pub TypesBallot : {Disk : Type 0} → Configuration Disk → Happening Disk → DeskId → Ballot → Type 0
TypesBallot w (DeskCalled c s (desks.Typed line said) out l text) d b =
    (d ≡ c) × (k : DeskState _) × ((node w c).process ≡ Running k) × (k.seat.position ≡ b.at)
    × SaysEntry s k.book k.votes b.at.round line b.entry
TypesBallot w what d b = ⊥

-- the desk's scorer typed this ballot in one of these happenings
abbrev pub WasTyped : {Disk : Type 0} → Configuration Disk → List (Happening Disk) → DeskId → Ballot → Type 0
WasTyped w [] d b = ⊥
WasTyped w (h ∷ hs) d b = TypesBallot (after w hs) h d b ⊎ WasTyped w hs d b

-- What a process prints belongs to the book that it shows then: how its desk stands; what its scorer is told of a call, by the
-- desk before and after it; the six lines of the board's book, or nothing. What it hands over to be shown is that book.
abbrev pub PrintsItsBook : {Disk : Type 0} → ℕ → Configuration Disk → Happening Disk → Type 0
PrintsItsBook innings w (DeskGreeted d s text) =
    (k : DeskState _) × ((node w d).process ≡ Running k) × (text ≡ greeting_of s innings k)
PrintsItsBook innings w (DeskCalled d s call out l text) =
    (k : DeskState _) × ((node w d).process ≡ Running k) × Tells s innings k call l text
PrintsItsBook innings w (BoardGreeted n s text seen) =
    (k : BoardState) × (board_at w.boards n ≡ Some k) × Greets s innings k text seen
PrintsItsBook innings w (BoardCalled n s call out l text seen) =
    Prints s innings call l text × Hands s innings call l seen
PrintsItsBook innings w what = Unit {0}

-- the headline for processes of a match of this number and innings a side
pub record ProcessHeadline {Disk : Type 0} (game innings : ℕ) (w : Configuration Disk) (hs : List (Happening Disk)) : Type 0 where
  -- of any two books that any two processes show at any two times, one is a prefix of the other
  pub prefixes : (t u : Station) (xs ys : List Entry) → AtSomeTime w hs (λ v. Shows v t xs)
      → AtSomeTime w hs (λ v. Shows v u ys) → BeginsWith ys xs ⊎ BeginsWith xs ys
  -- for each entry of a book that a process shows, both desks have voted for it in one round
  pub by_both : AtEachTime w hs ByBoth
  -- Each vote of a desk is for a line that its scorer typed there, and that the desk was given at the vote's position. Put in
  -- full, the line is the entry's; in every round but the first it stands behind `again `, or is `again` alone, for the entry
  -- of the round before.
  pub typed : (d : DeskId) (b : Ballot) → In b (votes_by (all_votes (after w hs)) d) → WasTyped w hs d b
  -- Each score is the Laws' score of its book: in a match of one or two innings a side each book that a process shows has one,
  -- and books of equal length have equal scores, at whatever processes and times.
  pub scored : 1 ≤ innings → innings ≤ 2 → AtEachTime w hs (AllHaveScores innings)
  pub scores : (t u : Station) (n : ℕ) (score other : Standing)
      → AtSomeTime w hs (λ v. ShowsScore innings v t n score)
      → AtSomeTime w hs (λ v. ShowsScore innings v u n other) → score ≡ other
  -- what a process prints belongs to the book that it shows then
  pub prints : AtEachHappening w hs (PrintsItsBook innings)
  -- What a board prints, and hands over to be shown as its text and as its state, is of a book for each entry of which both
  -- desks have voted in one round, with its score by the Laws.
  pub shows_agreed : AtEachHappening w hs (ShowsAgreed innings)
  -- A running station that noted both equal votes of its position has the entry: the call that brings the second adds it to the
  -- book, and no station is left with both. Processes keep exactly the noted votes.
  pub has_entry : AfterEach hs (TakesSecond game w) × AfterEach hs (NoneWaits game w)
  pub noted : AfterEach hs (KeepsNoted game w)
  -- no message that a station handed out shows a desk that its own file lacks lines, or the other desk's
  pub shows_no_loss : AtEachHappening w hs (ShowsNoLoss game)
  -- no vote that a station handed out contradicts a round that a board has heard
  pub no_vote_parts : NoVoteParts w hs
