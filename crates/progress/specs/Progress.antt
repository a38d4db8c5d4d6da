-- What goes on in a match, at each configuration `w` that a run comes to, after any kills, power losses and faults.
use Rattle.std.specs.Prelude.{◌≡◌, ◌≢◌, ◌<◌, ◌↔◌, ◌⊎◌, ℕ, false, true, Some, None, List, ◌∷◌, ◌++◌, length, slice_get}
use Rattle.notation.specs.declared.entry.Entry.{Entry}
use Rattle.notation.specs.Code.{code}
use Rattle.notation.specs.Written.{IsEntry}
use Rattle.agree_core.specs.declared.{messages.Ask.Ask, messages.DeskId.DeskId, messages.Message.Message, messages.Vote.Vote, position.Position.Position, seat.Settled.Settled}
use Rattle.agree_core.specs.declared.messages.DeskId.TheVariants.{A, B}
use Rattle.agree_core.specs.Agreed.{EqualVotes, IsAgreedList}
use Rattle.agree_core.specs.Ballots.{AllVotes, Ballot, In, votes_by}
use Rattle.agree_core.specs.Boards.{BoardState}
use Rattle.agree_core.specs.Desks.{DeskState, MayPen}
use Rattle.agree_core.specs.LostLines.{is_another, is_in_reach, is_passed_over}
use Rattle.agree_core.specs.Positions.{Before, position_of}
use Rattle.agree_core.specs.Readers.{other}
use Rattle.headline.specs.declared.{event.Event.Event, event.Station.Station}
use Rattle.headline.specs.Answers.{Answer, Penned}
use Rattle.headline.specs.Configurations.{Configuration, Running, all_votes, board_at, node}
use Rattle.headline.specs.Runs.{Moment, Run, last_of}
use Rattle.headline.specs.Setting.{Setting}
use Rattle.headline.specs.Steps.{Step}
use Rattle.progress.specs.CalmMoments.{AllCalm, BothUp, IsUp, NotBack}
use Rattle.progress.specs.Exchange.{Exchange, HasExchanges}
use Rattle.progress.specs.InStep.{EachKnows, HasVoted, InStep, IsBehind, IsBehindBy}

-- two running desks are at one position, or one of them is one position behind
abbrev pub DesksAreNear : {Disk : Type 0} → Configuration Disk → Type 0
DesksAreNear w =
    (k l : DeskState _) → (node w A).process ≡ Running k → (node w B).process ≡ Running l
    → (k.seat.position ≡ l.seat.position)
    ⊎ (IsBehind l.votes k.seat l.seat.position ⊎ IsBehind k.votes l.seat k.seat.position)

-- Each vote of the other desk that was ever handed out is for a running desk's position or an earlier one, or this desk is one
-- position behind the vote.
abbrev pub NoVoteFromAhead : {Disk : Type 0} → Configuration Disk → Type 0
NoVoteFromAhead w =
    (d : DeskId) (k : DeskState _) (n : ℕ) (v : Vote) → (node w d).process ≡ Running k
    → slice_get w.sent n ≡ Some (Message.Vote v) → v.desk ≡ other d
    → NotBack (position_of v) k.seat.position ⊎ IsBehind (votes_by (all_votes w) (other d)) k.seat (position_of v)

-- so no vote shows that the other desk's file lacks lines
abbrev pub AllInReach : {Disk : Type 0} → Configuration Disk → Type 0
AllInReach w =
    (d : DeskId) (k : DeskState _) (n : ℕ) (v : Vote) → (node w d).process ≡ Running k
    → slice_get w.sent n ≡ Some (Message.Vote v) → v.desk ≡ other d → is_in_reach k.seat (position_of v) ≡ true

-- no ask that was ever handed out is for a position that a desk passed without voting there
abbrev pub NonePassedOver : {Disk : Type 0} → Configuration Disk → Type 0
NonePassedOver w =
    (d : DeskId) (k : DeskState _) (n : ℕ) (q : Ask) → (node w d).process ≡ Running k → slice_get w.sent n ≡ Some (Message.Ask q)
    → is_passed_over k.seat k.votes (record { place = q.place; round = q.round }) ≡ false

-- each vote is for an entry that can be written
abbrev pub AllAreEntries : AllVotes → Type 0
AllAreEntries v = (d : DeskId) (b : Ballot) → In b (votes_by v d) → IsEntry b.entry

-- If all are entries, the other desk never handed out a vote, for a position that a desk has left, that differs from the vote
-- by which the desk left it. So no vote shows that the other desk's file lacks lines.
abbrev pub NoneIsAnother : {Disk : Type 0} → Configuration Disk → Type 0
NoneIsAnother w =
    AllAreEntries (all_votes w) → (d : DeskId) (k : DeskState _) (n : ℕ) (v : Vote) → (node w d).process ≡ Running k
    → slice_get w.sent n ≡ Some (Message.Vote v) → v.desk ≡ other d → Before (position_of v) k.seat.position
    → is_another k.seat k.votes (position_of v) (code v.entry) ≡ false

-- What became of a position at which the desks were in step with this book. They are still in step there; or both voted there
-- for one entry, and are in step with it next in their book; or they voted for two entries, and are in step at a later
-- position.
abbrev pub GoneOn : {Disk : Type 0} → Configuration Disk → Position → List Entry → Type 0
GoneOn w p book =
    InStep w p book
    ⊎ (((e : Entry) × (more : List Entry) × (q : Position) × EqualVotes (all_votes w) p.place p.round e
    × InStep w q (book ++ e ∷ more))
    ⊎ ((e : Entry) × (f : Entry) × (more : List Entry) × (q : Position) × (e ≢ f)
    × In (record { at = p; entry = e }) (all_votes w).a × In (record { at = p; entry = f }) (all_votes w).b
    × Before p q × InStep w q (book ++ more)))

-- each desk that has voted there has voted for this entry
abbrev pub AllVotedFor : AllVotes → Position → Entry → Type 0
AllVotedFor v p e = (d : DeskId) (f : Entry) → In (record { at = p; entry = f }) (votes_by v d) → f ≡ e

-- the desk is up, nothing bars its scorer from penning this entry, and if he pens it, the answer is that it is penned
abbrev pub CanPen : {Disk Why : Type 0} → Setting Disk Why → Configuration Disk → DeskId → Entry → Type 0
CanPen s w d e =
    ((k : DeskState _) × IsUp (node w d) k × MayPen s.rules k e)
    × ((answer : Answer _) (new : Configuration _) → Step s w (Event.Pen d e) answer new
    → (settled : Settled) × (answer ≡ Penned settled))

-- calm moments from configuration w on, in which each desk has an exchange with the other
pub record Hear {Disk Why : Type 0} (s : Setting Disk Why) (w : Configuration Disk) (ms : List (Moment Disk Why)) : Type 0 where
  pub run : Run s w ms
  pub calm : AllCalm ms
  pub exchanges : (d : DeskId) → Exchange w (Station.Desk d) (other d) ms

-- any events after w, after which both desks are up, and then an exchange in which they hear each other, lead to this one
pub record HearAgain {Disk Why : Type 0} (s : Setting Disk Why) (w new : Configuration Disk) : Type 0 where
  pub events : List (Moment Disk Why)
  pub run : Run s w events
  pub up : BothUp (last_of w events)
  pub exchange : List (Moment Disk Why)
  pub hear : Hear s (last_of w events) exchange
  pub ends : new ≡ last_of (last_of w events) exchange

module _ {Disk Why : Type 0} (s : Setting Disk Why) (w : Configuration Disk) where
  -- in calm moments a desk that is up stays up, keeps its votes, and doesn't go back
  abbrev pub StaysUp : Type 0
  StaysUp =
      (ms : List (Moment Disk Why)) (d : DeskId) (k : DeskState Disk) → Run s w ms → AllCalm ms → IsUp (node w d) k
      → (l : DeskState Disk) × IsUp (node (last_of w ms) d) l × (l.votes ≡ k.votes)
      × NotBack k.seat.position l.seat.position

  -- a desk whose disk has failed stays as it is, apart from the disk, until it is killed or loses power
  abbrev pub StaysFailed : Type 0
  StaysFailed =
      (d : DeskId) (k : DeskState Disk) (event : Event) (answer : Answer Why) (new : Configuration Disk)
      → (node w d).process ≡ Running k → k.failed ≡ true → Step s w event answer new
      → (event ≢ Event.Kill d) → ((choice : _) → event ≢ Event.Power d choice)
      → (l : DeskState Disk) × ((node new d).process ≡ Running l) × (l ≡ record k { disk = l.disk })

  -- if both desks are up, such moments are always possible, for the desks and for a board
  abbrev pub MayHear : Type 0
  MayHear =
      BothUp w
      → ((ms : List (Moment Disk Why)) × Hear s w ms)
      × ((n m : ℕ) (k : BoardState) → board_at w.boards n ≡ Some k
      → (ms : List (Moment Disk Why)) × Run s w ms × AllCalm ms × HasExchanges w n m ms)

  -- once each desk has had an exchange with the other, the desks are in step
  abbrev pub HearingSettles : Type 0
  HearingSettles =
      (ms : List (Moment Disk Why)) → BothUp w → Hear s w ms
      → (p : Position) × (book : List Entry) × InStep (last_of w ms) p book

  -- In step, a scorer can pen an entry exactly if he hasn't voted there, the rules take the entry next, and no limit is
  -- reached: of the places, of the rounds of a place, of the slots of his file.
  abbrev pub CanPenInStep : Type 0
  CanPenInStep =
      (p : Position) (book : List Entry) (d : DeskId) (e : Entry) → InStep w p book
      → CanPen s w d e ↔ ((HasVoted (all_votes w) d p → ⊥) × (s.rules book e ≡ None)
      × (p.place < 8192) × (p.round < 256) × (length (votes_by (all_votes w) d) < 16384))

  -- what becomes of a position at which the desks are in step, whatever happens
  abbrev pub GoesOn : Type 0
  GoesOn =
      (p : Position) (book : List Entry) (new : Configuration Disk) → InStep w p book → HearAgain s w new → GoneOn new p book

  -- In step, if both scorers write one entry that the rules take next, each in his time, whatever else happens: a scorer who
  -- hasn't written there still can, if his file has a slot for it, and once both have, it is next in both books.
  abbrev pub AlikeIsTaken : Type 0
  AlikeIsTaken =
      (p : Position) (book : List Entry) (e : Entry) (new : Configuration Disk) → InStep w p book → s.rules book e ≡ None
      → p.place < 8192 → p.round < 256 → HearAgain s w new → AllVotedFor (all_votes new) p e
      → (InStep new p book × ((d : DeskId) → (HasVoted (all_votes new) d p → ⊥) → length (votes_by (all_votes new) d) < 16384
      → CanPen s new d e))
      ⊎ ((es : List Entry) × (q : Position) × InStep new q (book ++ e ∷ es))

  -- after a second exchange each desk has also noted the other's vote
  abbrev pub HearingAgainTells : Type 0
  HearingAgainTells =
      (ms rest : List (Moment Disk Why)) → BothUp w → Hear s w ms → Hear s (last_of w ms) rest
      → EachKnows (last_of (last_of w ms) rest)

  -- A board is some number of positions behind. After as many exchanges with both desks, which are up, its book is the agreed
  -- list of all votes, and so the desks' book if they are in step.
  abbrev pub BoardsFollow : Type 0
  BoardsFollow =
      (n : ℕ) (k : BoardState) → BothUp w → board_at w.boards n ≡ Some k
      → (m : ℕ) × IsBehindBy (all_votes w) k.reader.position m
      × ((ms : List (Moment Disk Why)) → Run s w ms → AllCalm ms → HasExchanges w n m ms
      → (l : BoardState) × (board_at (last_of w ms).boards n ≡ Some l) × IsAgreedList (all_votes (last_of w ms)) l.book
      × ((p : Position) (book : List Entry) → InStep (last_of w ms) p book → l.book ≡ book))

-- what goes on, whatever came before
pub record Progress {Disk Why : Type 0} (s : Setting Disk Why) (w : Configuration Disk) : Type 0 where
  pub settles : HearingSettles s w
  pub can_pen : CanPenInStep s w
  pub goes_on : GoesOn s w
  pub alike : AlikeIsTaken s w
  pub boards : BoardsFollow s w

-- what holds at each configuration that a run comes to
pub record HoldsAt {Disk Why : Type 0} (s : Setting Disk Why) (w : Configuration Disk) : Type 0 where
  pub progress : Progress s w
  -- besides: such moments are possible, how far apart the desks are, and what a desk keeps
  pub may_hear : MayHear s w
  pub tells : HearingAgainTells s w
  pub near : DesksAreNear w
  pub none_ahead : NoVoteFromAhead w
  pub in_reach : AllInReach w
  pub none_passed : NonePassedOver w
  pub none_another : NoneIsAnother w
  pub stays_up : StaysUp s w
  pub stays_failed : StaysFailed s w
