-- What a replay reports.
use Rattle.std.specs.Prelude.{◌≡◌, ◌↔◌, ◌+◌, ◌≤◌, ◌⊎◌, ℕ, Some, List, map, length, take, slice_get, Contains}
use Rattle.notation.specs.declared.entry.Entry.{Entry}
use Rattle.match_laws.specs.declared.standing.Standing.{Standing}
use Rattle.corrections.specs.Legal.{IsScoreOf}
use Rattle.corrections.specs.declared.refusal.Refusal.{Refusal}
use Rattle.entry_log.specs.declared.mem_disk.MemDisk.{MemDisk}
use Rattle.agree_core.specs.Agreed.{IsAgreedList}
use Rattle.headline.specs.declared.{event.Event.Event, event.Station.Station, version.FileVersion.FileVersion}
use Rattle.schedule_replay.specs.declared.{report.Report.Report, seen.Seen.Seen, seen.WorldRefusal.WorldRefusal}
use Rattle.schedule_replay.specs.declared.seen.WorldRefusal.TheVariants.{NoMemory}
use Rattle.headline.specs.Laws.{HoldsInRun}
use Rattle.headline.specs.Configurations.{Configuration, all_votes}
use Rattle.headline.specs.Runs.{AtEachMoment, AtSomeMoment, Begins, Moment, Run, answers_of, events_of, last_of}
use Rattle.headline.specs.Headline.{AllHaveScores, ShowsScore}
use Rattle.schedule_replay.specs.Refusals.{RefusesEvent}
use Rattle.headline.specs.Match.{match_of}
use Rattle.headline.specs.Besides.{AtEachEvent}
use Rattle.schedule_replay.specs.Plans.{CountsDown, LeavesPlan}
use Rattle.schedule_replay.specs.Answers.{answer_of}

-- a run of a match on disks in memory
abbrev pub MatchRun : Type 0
MatchRun = List (Moment MemDisk Refusal)

-- The list has exactly what stations have shown: a station, its book's length and its score are in it exactly if the station
-- showed them at the start or after some event.
abbrev pub AreSeen : ℕ → Configuration MemDisk → MatchRun → List (Station × ℕ × Standing) → Type 0
AreSeen innings w ms seen =
    (t : Station) (n : ℕ) (score : Standing)
    → Contains seen (t, n, score) ↔ AtSomeMoment w ms (λ v. ShowsScore innings v t n score)

-- A run of the match over these events, with these outcomes. Each fault asked for is planned and then counted down, and none
-- stays planned after a kill or a power loss.
pub record IsRunOf
    (game innings : ℕ) (version : FileVersion) (boards : ℕ) (events : List Event) (outcomes : List Seen)
    (w : Configuration MemDisk) (ms : MatchRun) : Type 0 where
  pub begins : Begins (match_of game innings) version boards w
  pub run : Run (match_of game innings) w ms
  pub over : events_of ms ≡ events
  pub answered : map answer_of outcomes ≡ map Some (answers_of ms)
  pub planned : AtEachEvent w ms (λ v m. LeavesPlan m.event m.after)
  pub counted : AtEachEvent w ms (λ v m. CountsDown m.event v m.after)

-- event k, counted from 1, is refused after such a run over the events before it
abbrev pub RefusedAt :
    ℕ → ℕ → FileVersion → ℕ → List Event → ℕ → WorldRefusal → Type 0
RefusedAt game innings version boards events k why =
    (outcomes : List Seen) × (w : Configuration MemDisk) × (ms : MatchRun) × (before : ℕ) × (event : Event)
    × (v : Configuration MemDisk)
    × IsRunOf game innings version boards (take before events) outcomes w ms × HoldsInRun (match_of game innings) innings w ms
    × (k ≡ before + 1)
    × (slice_get events before ≡ Some event) × RefusesEvent (match_of game innings) (last_of w ms) event why v

-- all events are taken
abbrev pub TakesEach : ℕ → ℕ → FileVersion → ℕ → List Event → Type 0
TakesEach game innings version boards events =
    (outcomes : List Seen) × (w : Configuration MemDisk) × (ms : MatchRun)
    × IsRunOf game innings version boards events outcomes w ms × HoldsInRun (match_of game innings) innings w ms

-- why a replay has no report: an event is refused; or all are taken, and memory ran out for the report alone
abbrev pub EndsAt : ℕ → ℕ → FileVersion → ℕ → List Event → ℕ × WorldRefusal → Type 0
EndsAt game innings version boards events end =
    ((end.0 ≡ 0) × (end.1 ≡ NoMemory) × TakesEach game innings version boards events)
    ⊎ RefusedAt game innings version boards events end.0 end.1

-- likewise for a replay that makes its world, for which memory may run out
abbrev pub EndsOrNeverBegins : ℕ → ℕ → FileVersion → ℕ → List Event → ℕ × WorldRefusal → Type 0
EndsOrNeverBegins game innings version boards events end =
    ((end.0 ≡ 0) × (end.1 ≡ NoMemory)) ⊎ EndsAt game innings version boards events end

-- each score shown is the Laws' score of its book, which is the first n entries of the agreed list
abbrev pub AreScores : ℕ → List Entry → List (Station × ℕ × Standing) → Type 0
AreScores innings agreed seen =
    (t : Station) (n : ℕ) (score : Standing) → Contains seen (t, n, score)
    → (n ≤ length agreed) × IsScoreOf score innings (take n agreed)

-- no station and length are listed twice
abbrev pub StandOnce : List (Station × ℕ × Standing) → Type 0
StandOnce seen =
    (i j : ℕ) (t : Station) (n : ℕ) (score other : Standing) → slice_get seen i ≡ Some (t, n, score)
    → slice_get seen j ≡ Some (t, n, other) → i ≡ j

-- the report of a run of the match over these events
pub record IsReportOf
    (game innings : ℕ) (version : FileVersion) (boards : ℕ) (events : List Event) (report : Report)
    (w : Configuration MemDisk) (ms : MatchRun) : Type 0 where
  -- a run over all events, with these outcomes; and what holds in every run holds in it
  pub run : IsRunOf game innings version boards events report.outcomes.items w ms
  pub holds : HoldsInRun (match_of game innings) innings w ms
  -- the agreed list of the last votes
  pub agreed : IsAgreedList (all_votes (last_of w ms)) report.agreed.items
  -- Each station that isn't down shows a score. A station, length and score are listed exactly if the run shows them, once
  -- each, and each score is the Laws' score of the first n entries of the agreed list.
  pub scored : AtEachMoment w ms (AllHaveScores innings)
  pub seen : AreSeen innings w ms report.seen.items
  pub once : StandOnce report.seen.items
  pub scores : AreScores innings report.agreed.items report.seen.items

-- the report is that of some run
abbrev pub IsReplay : ℕ → ℕ → FileVersion → ℕ → List Event → Report → Type 0
IsReplay game innings version boards events report =
    (w : Configuration MemDisk) × (ms : MatchRun) × IsReportOf game innings version boards events report w ms
