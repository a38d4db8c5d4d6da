-- What holds in every run besides the headline: no vote is lost, files keep all votes, and some answers never come.
use Rattle.std.specs.Prelude.{◌≡◌, ℕ, Option, Some, List, [], ◌∷◌, slice_get}
use Rattle.notation.specs.declared.entry.Entry.{Entry}
use Rattle.agree_core.specs.declared.{messages.DeskId.DeskId, messages.Message.Message, messages.Vote.Vote, seat.Heard.Heard}
use Rattle.agree_core.specs.Agreed.{BeginsWith, IsAgreedList}
use Rattle.agree_core.specs.Ballots.{AllVotes, Ballot, In, VotesGrow, Within, ballot_of, votes_by}
use Rattle.agree_core.specs.Laws.{OneVoteEach, PlacesSettled, RoundsDiffer}
use Rattle.headline.specs.declared.event.{Event.Event, Station.Station}
use Rattle.headline.specs.Setting.{Setting}
use Rattle.headline.specs.Configurations.{Configuration, node, process_disk, all_votes}
use Rattle.headline.specs.Answers.{Answer}
use Rattle.headline.specs.Runs.{AtSomeMoment, Moment, Shows, last_of}

-- at each event from this configuration on
abbrev pub AtEachEvent :
    {Disk Why : Type 0} → Configuration Disk → List (Moment Disk Why)
    → (Configuration Disk → Moment Disk Why → Type 0) → Type 0
AtEachEvent w [] P = Unit {0}
AtEachEvent w (m ∷ ms) P = AtEachEvent w ms P × P (last_of w ms) m

-- the agreed list of the last votes begins with each book ever shown
abbrev pub WithinAgreed : {Disk Why : Type 0} → Configuration Disk → List (Moment Disk Why) → Type 0
WithinAgreed w ms =
    (t : Station) (xs agreed : List Entry) → AtSomeMoment w ms (λ v. Shows v t xs)
    → IsAgreedList (all_votes (last_of w ms)) agreed → BeginsWith agreed xs

-- a vote that was handed out is among its desk's votes, and those are in every read and every image of the disk
pub record KeptSafe {Disk Why : Type 0} (s : Setting Disk Why) (w : Configuration Disk) : Type 0 where
  pub sent : (n : ℕ) (v : Vote) → slice_get w.sent n ≡ Some (Message.Vote v)
      → In (ballot_of v) (votes_by (all_votes w) v.desk)
  pub images : (d : DeskId) (image : Option (List Ballot))
      → (s.view d (node w d).version).Image (process_disk (node w d).process) image
      → (votes : List Ballot) × (image ≡ Some votes) × Within (votes_by (all_votes w) d) votes
  pub reads : (d : DeskId) → (votes : List Ballot)
      × ((s.view d (node w d).version).reads (process_disk (node w d).process) ≡ Some votes)
      × Within (votes_by (all_votes w) d) votes

-- how votes stand: each vote follows from the one before it and the other desk's votes
pub record VotesStand (v : AllVotes) : Type 0 where
  pub one_each : OneVoteEach v
  pub rounds : RoundsDiffer v
  pub places : PlacesSettled v

abbrev pub IsMigration : Event → Type 0
IsMigration (Event.Migrate d) = Unit {0}
IsMigration _ = ⊥

-- No answer tells of two votes of one desk for a position, of votes that make no book, or of an unsound file; and only a
-- migration is answered that the file is of another version.
abbrev pub IsSoundAnswer : {Why : Type 0} → Event → Answer Why → Type 0
IsSoundAnswer event (Answer.Told Heard.TwoVotes) = ⊥
IsSoundAnswer event Answer.BadVotes = ⊥
IsSoundAnswer event Answer.Unsound = ⊥
IsSoundAnswer event Answer.NoBook = ⊥
IsSoundAnswer event Answer.OtherVersion = IsMigration event
IsSoundAnswer event _ = Unit {0}

-- what else holds at each moment
pub record StandsFast {Disk Why : Type 0} (s : Setting Disk Why) (w : Configuration Disk) : Type 0 where
  pub safe : KeptSafe s w
  pub votes : VotesStand (all_votes w)

-- no event loses a vote
abbrev pub KeepsVotes : {Disk Why : Type 0} → Configuration Disk → Moment Disk Why → Type 0
KeepsVotes w m = VotesGrow (all_votes w) (all_votes m.after)
