-- The headline: what holds in every run.
use Rattle.std.specs.Prelude.{◌≡◌, ◌≤◌, ◌⊎◌, ℕ, Some, List, [], ◌∷◌, ◌++◌, All, length, slice_get}
use Rattle.notation.specs.declared.entry.Entry.{Entry}
use Rattle.match_laws.specs.declared.standing.Standing.{Standing}
use Rattle.corrections.specs.Legal.{IsScoreOf}
use Rattle.agree_core.specs.declared.messages.DeskId.{DeskId}
use Rattle.agree_core.specs.declared.messages.DeskId.TheVariants.{A, B}
use Rattle.agree_core.specs.Agreed.{BeginsWith, EqualVotes}
use Rattle.agree_core.specs.Ballots.{Ballot, In, votes_by}
use Rattle.agree_core.specs.Readers.{other}
use Rattle.headline.specs.declared.event.Station.{Station}
use Rattle.headline.specs.Setting.{Setting}
use Rattle.headline.specs.Configurations.{Configuration, all_votes}
use Rattle.headline.specs.Events.{IsEvent}
use Rattle.headline.specs.Runs.{AfterEach, AtEachMoment, AtSomeMoment, Moment, Shows, events_of, last_of}
use Rattle.headline.specs.Noted.{HasNoted, IsBrought}
use Rattle.headline.specs.Penned.{WasPenned}

-- of any two books shown at any two moments, by any stations, one is a prefix of the other
abbrev pub ArePrefixes : {Disk Why : Type 0} → Configuration Disk → List (Moment Disk Why) → Type 0
ArePrefixes w ms =
    (t u : Station) (xs ys : List Entry) → AtSomeMoment w ms (λ v. Shows v t xs)
    → AtSomeMoment w ms (λ v. Shows v u ys) → BeginsWith ys xs ⊎ BeginsWith xs ys

-- for each entry of a shown book, both desks voted for it in one round of its place
abbrev pub ByBoth : {Disk : Type 0} → Configuration Disk → Type 0
ByBoth v =
    (t : Station) (xs : List Entry) (place : ℕ) (e : Entry) → Shows v t xs → slice_get xs place ≡ Some e
    → (round : ℕ) × EqualVotes (all_votes v) place round e

-- each vote that a desk has was penned by its scorer, unchanged, in a pen that was taken or cut off
abbrev pub ArePenned : {Disk Why : Type 0} → Configuration Disk → List (Moment Disk Why) → Type 0
ArePenned w ms =
    (d : DeskId) (b : Ballot) → In b (votes_by (all_votes (last_of w ms)) d) → WasPenned w ms d b

-- the station shows a book of n entries with this score by the Laws
abbrev pub ShowsScore : {Disk : Type 0} → ℕ → Configuration Disk → Station → ℕ → Standing → Type 0
ShowsScore innings v t n score =
    (book : List Entry) × Shows v t book × (n ≡ length book) × IsScoreOf score innings book

-- each score that a station shows is its book's score by the Laws
abbrev pub ShowsLawsScores : {Disk Why : Type 0} → Setting Disk Why → ℕ → Configuration Disk → Type 0
ShowsLawsScores s innings v =
    (t : Station) (book : List Entry) (score : Standing) → Shows v t book → s.shows book score → IsScoreOf score innings book

-- each book that a station shows has a score by the Laws
abbrev pub AllHaveScores : {Disk : Type 0} → ℕ → Configuration Disk → Type 0
AllHaveScores innings v = (t : Station) (book : List Entry) → Shows v t book → (score : Standing) × IsScoreOf score innings book

-- the match has one or two innings a side, and the numbers of every penned entry are in range
abbrev pub HasRanges : {Disk Why : Type 0} → ℕ → List (Moment Disk Why) → Type 0
HasRanges innings ms = (1 ≤ innings) × (innings ≤ 2) × All IsEvent (events_of ms)

-- books of equal length, which by the first claim are one book, have one score, at whatever stations and moments
abbrev pub HaveOneScore : {Disk Why : Type 0} → ℕ → Configuration Disk → List (Moment Disk Why) → Type 0
HaveOneScore innings w ms =
    (t u : Station) (n : ℕ) (score that : Standing) → AtSomeMoment w ms (λ v. ShowsScore innings v t n score)
    → AtSomeMoment w ms (λ v. ShowsScore innings v u n that) → score ≡ that

-- If the last event brings the second of two equal votes to a station that has noted the first, both for the station's
-- position, the station's book grows by their entry.
abbrev pub TakesSecond : {Disk Why : Type 0} → Setting Disk Why → Configuration Disk → List (Moment Disk Why) → Type 0
TakesSecond s w [] = Unit {0}
TakesSecond s w (m ∷ ms) =
    (t : Station) (book : List Entry) (b : Ballot) (c : DeskId) → Shows (last_of w ms) t book → HasNoted s w ms t c b
    → IsBrought (last_of w ms) m t (other c) b → Shows m.after t (book ++ b.entry ∷ [])

-- No station is left with both votes of its position noted, equal or not: it went on with the second.
abbrev pub NoneWaits : {Disk Why : Type 0} → Setting Disk Why → Configuration Disk → List (Moment Disk Why) → Type 0
NoneWaits s w ms =
    (t : Station) (a b : Ballot) → HasNoted s w ms t A a → HasNoted s w ms t B b → ⊥

-- the headline, for a run of a match with this many innings a side
pub record Headline
    {Disk Why : Type 0} (s : Setting Disk Why) (innings : ℕ) (w : Configuration Disk) (ms : List (Moment Disk Why))
    : Type 0 where
  -- of any two books that desks or boards show at any two moments, one is a prefix of the other
  pub prefixes : ArePrefixes w ms
  -- both scorers voted in one round for each entry of a book, and each vote was penned before
  pub by_both : AtEachMoment w ms ByBoth × AfterEach ms (ArePenned w)
  -- Each score shown is the Laws' score of its book; if innings and numbers are in range, each shown book has one; and books of
  -- equal length have equal scores.
  pub shown : AtEachMoment w ms (ShowsLawsScores s innings)
  pub scored : HasRanges innings ms → AtEachMoment w ms (AllHaveScores innings)
  pub scores : HaveOneScore innings w ms
  -- A running station that noted both equal votes of its position has the entry: the call that brings the second adds it to the
  -- book, and no station is left with both.
  pub has_entry : AfterEach ms (TakesSecond s w) × AfterEach ms (NoneWaits s w)
