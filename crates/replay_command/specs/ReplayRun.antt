-- What is printed of a schedule: the run of a world over its events, or over those before the first that the world refuses. The
-- match and its innings are those of the sheet.
use Rattle.std.specs.Prelude.{◌≡◌, ◌+◌, ℕ, ⊤, Bool, true, false, Some, List, ◌++◌, length, slice_get, take, Option}
use Rattle.entry_log.specs.declared.mem_disk.MemDisk.{MemDisk}
use Rattle.cards.specs.Sheet.{Sheet}
use Rattle.streams.specs.declared.watched.Watched.{Watched}
use Rattle.streams.specs.Watched.{Prints}
use Rattle.headline.specs.declared.{event.Event.Event, version.FileVersion.FileVersion}
use Rattle.schedule_replay.specs.declared.{seen.Seen.Seen, seen.WorldRefusal.WorldRefusal}
use Rattle.schedule_replay.specs.CodeWorlds.{HasConfiguration}
use Rattle.notation.specs.Lines.{lines_of}
use Rattle.notation.specs.declared.entry.Entry.{Entry}
use Rattle.agree_core.specs.Agreed.{IsAgreedList}
use Rattle.headline.specs.Match.{match_of}
use Rattle.schedule_replay.specs.Refusals.{RefusesEvent}
use Rattle.schedule_replay.specs.Replays.{IsRunOf, MatchRun}
use Rattle.schedule_replay.specs.inner.VotesFiles.{FilesRead}
use Rattle.headline.specs.Runs.{last_of}
use Rattle.schedules.specs.ScheduleLines.{HasFault, IsScheduleOf}
use Rattle.schedule_replay.specs.SeenWords.{refusal_number}
use Rattle.headline.specs.Configurations.{Configuration, all_votes}
use Rattle.headline.specs.Laws.{HoldsInRun}
use Rattle.setup.specs.Fault.{IsOfStreams}
use Rattle.setup.specs.declared.fault.StopFault.{StopFault}
use Rattle.setup.specs.declared.fault.StopFault.TheVariants.{Schedule}
use Rattle.replay_command.specs.declared.replay.step.Stepped.{Stepped}
use Rattle.replay_command.specs.declared.replay.step.Stepped.TheVariants.{Whole, Refused}
use Rattle.replay_command.specs.Replay.{event_lines, last_lines, refusal_line}

-- a world takes all events with these answers, and is last in the end
pub record TakesAll
    (s : Sheet) (version : FileVersion) (boards : ℕ) (events : List Event) (outcomes : List Seen)
    (last : Configuration MemDisk) : Type 0 where
  pub w : Configuration MemDisk
  pub ms : MatchRun
  pub run : IsRunOf s.game s.innings version boards events outcomes w ms
  pub ends : last ≡ last_of w ms

-- a world takes the first events with these answers, and refuses event k, counted from 1, with this number
pub record RefusesOne
    (s : Sheet) (version : FileVersion) (boards : ℕ) (events : List Event) (outcomes : List Seen)
    (k number : ℕ) : Type 0 where
  pub w : Configuration MemDisk
  pub ms : MatchRun
  pub before : ℕ
  pub event : Event
  pub why : WorldRefusal
  pub v : Configuration MemDisk
  pub run : IsRunOf s.game s.innings version boards (take before events) outcomes w ms
  pub counted : k ≡ before + 1
  pub next : slice_get events before ≡ Some event
  pub refused : RefusesEvent (match_of s.game s.innings) (last_of w ms) event why v
  pub numbered : refusal_number why ≡ Some number

module _ {S : Type 0} (contents : S → Option (List ℕ)) (old new : Watched S) (s : Sheet) (version : FileVersion) (boards : ℕ) (events : List Event) where
  -- A whole run, of which holds what holds of every run, is printed: the answer to each event, how many entries are agreed at
  -- its end, and the stations then.
  pub record PrintsWhole : Type 0 where
    pub outcomes : List Seen
    pub last : Configuration MemDisk
    pub takes : TakesAll s version boards events outcomes last
    pub holds : HoldsInRun (match_of s.game s.innings) s.innings takes.w takes.ms
    pub agreed : List Entry
    pub is_agreed : IsAgreedList (all_votes last) agreed
    pub written : Prints contents old new (event_lines outcomes ++ last_lines (length agreed) last)

  -- the answers to the events before the refused one are printed, and the refusal
  pub record PrintsRefused : Type 0 where
    pub outcomes : List Seen
    pub k : ℕ
    pub number : ℕ
    pub refuses : RefusesOne s version boards events outcomes k number
    pub written : Prints contents old new (event_lines outcomes ++ refusal_line k number)

  -- what is printed, by whether the world refuses an event
  abbrev pub PrintsRun : Bool → Type 0
  PrintsRun false = PrintsWhole
  PrintsRun true = PrintsRefused

-- the input's lines are those of a schedule, whose run is printed
abbrev pub PrintsReplay :
    {S : Type 0} → (S → Option (List ℕ)) → Watched S → Watched S → Sheet → FileVersion → ℕ → List ℕ → Bool → Type 0
PrintsReplay contents old new s version boards input refused =
    (events : List Event) × IsScheduleOf (lines_of input) events
    × PrintsRun contents old new s version boards events refused

-- no memory, a failed read or write, or an input that is no schedule
abbrev pub IsOfReplay : StopFault → Type 0
IsOfReplay (Schedule why) = ⊤
IsOfReplay fault = IsOfStreams fault

-- why there is no replay: the input has this fault, or memory or a stream failed
abbrev pub WhyNoReplay : List ℕ → StopFault → Type 0
WhyNoReplay input (Schedule why) = HasFault (lines_of input) why
WhyNoReplay input fault = IsOfStreams fault

-- ---- for private functions

-- how the events ran
abbrev pub IsStepped : Sheet → FileVersion → ℕ → List Event → Stepped → Type 0
IsStepped s version boards events (Whole outcomes world) =
    (last : Configuration MemDisk) × TakesAll s version boards events outcomes.items last × HasConfiguration world last
    × FilesRead world.game world.innings_a_side last
IsStepped s version boards events (Refused outcomes k number) =
    RefusesOne s version boards events outcomes.items k number
