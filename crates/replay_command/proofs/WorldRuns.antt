-- A run of a world over the events of a schedule goes on, and ends.
use Rattle.std.proofs.Common.{◌≡◌, ◌<◌, ℕ, ◌+◌, Some, List, [], ◌∷◌, ◌++◌, length, slice_index_or, refl}
use Rattle.std.proofs.Math.Seq.{take-length}
use Rattle.entry_log.specs.declared.mem_disk.MemDisk.{MemDisk}
use Rattle.cards.specs.Sheet.{Sheet}
use Rattle.headline.specs.declared.{event.Event.Event, version.FileVersion.FileVersion}
use Rattle.schedule_replay.specs.declared.{seen.Seen.Seen, seen.WorldRefusal.WorldRefusal, world.World.World}
use Rattle.schedule_replay.specs.CodeWorlds.{BeginsWorld, HasConfiguration, RefusesTo, KeepsMatch, StepsTo}
use Rattle.schedule_replay.specs.Replays.{MatchRun}
use Rattle.headline.specs.Runs.{last_of}
use Rattle.schedule_replay.specs.SeenWords.{refusal_number}
use Rattle.headline.specs.Configurations.{Configuration}
use Rattle.schedule_replay.specs.inner.RunsSoFar.{IsAt}
use Rattle.schedule_replay.specs.inner.VotesFiles.{FilesRead}
use Rattle.schedule_replay.proofs.ReadLemmas.{files_read}
use Rattle.headline.specs.Laws.{HoldsInRun}
use Rattle.headline.specs.Match.{match_of}
use Rattle.headline.proofs.EveryRun.{holds_in_run}
use Rattle.headline.proofs.Keeping.{begins_fine, run_keeps}
use Rattle.schedule_replay.proofs.ReplayLemmas.{begins_at, refuses_at, steps_on}
use Rattle.replay_command.specs.ReplayRun.{RefusesOne, TakesAll}

-- some run over the first events ends in the state that the code's world has
pub record IsStepping (s : Sheet) (version : FileVersion) (boards : ℕ) (events : List Event) (number : ℕ) (world : World) (outcomes : List Seen) : Type 0 where
  pub w : Configuration MemDisk
  pub ms : MatchRun
  pub at : IsAt s.game s.innings version boards events number world outcomes w ms

pub starts : (s : Sheet) (version : FileVersion) (boards : ℕ) (events : List Event) (world : World) (outcomes : List Seen) →
    BeginsWorld s.game s.innings version boards world → outcomes ≡ [] → IsStepping s version boards events 0 world outcomes
starts s version boards events world outcomes h none =
    let b = begins_at world h in rw none (record { w = b.0; ms = []; at = b.1 })

-- what holds of every run holds of this run
pub all_holds : {s : Sheet} {version : FileVersion} {boards : ℕ} {events : List Event} {outcomes : List Seen} {last : Configuration MemDisk}
    (takes : TakesAll s version boards events outcomes last) → HoldsInRun (match_of s.game s.innings) s.innings takes.w takes.ms
all_holds {s = s} {version = version} {boards = boards} takes =
    holds_in_run (match_of s.game s.innings) s.innings (λ book e none. none) (λ book score stands. stands) version boards takes.w takes.ms takes.run.begins takes.run.run

module _
    {s : Sheet} {version : FileVersion} {boards : ℕ} {events : List Event} {number : ℕ} {world : World} {outcomes : List Seen}
    (h : IsStepping s version boards events number world outcomes)
  where
    -- a read of each file gives its desk's votes, and perhaps later ones
    files : FilesRead world.game world.innings_a_side (last_of h.w h.ms)
    files =
        let m = match_of s.game s.innings in
        let run = h.at.run in
        let read = files_read s.game s.innings (last_of h.w h.ms) (run_keeps m h.w h.ms (begins_fine m version boards h.w run.begins) run.run) in
        rw h.at.same_game read

    pub takes_all : number ≡ length events
        → (last : Configuration MemDisk) × TakesAll s version boards events outcomes last × HasConfiguration world last × FilesRead world.game world.innings_a_side last
    takes_all e =
        let run = rw (e, take-length events) at h.at.run in
        (last_of h.w h.ms, record { w = h.w; ms = h.ms; run = run; ends = refl }, h.at.has_configuration, files)

    module _ (event : Event) (new : World) (less : number < length events) (here : event ≡ slice_index_or events number event) where
      pub steps : (seen : Seen) → StepsTo event world seen new → KeepsMatch world new → IsStepping s version boards events (number + 1) new (outcomes ++ seen ∷ [])
      steps seen taken same =
          let n = steps_on number event world new outcomes seen h.w h.ms less here h.at taken same in
          record { w = h.w; ms = n.0 ∷ h.ms; at = n.1 }

      pub refuses_one : (n : ℕ) (why : WorldRefusal) → refusal_number why ≡ Some n → RefusesTo event world why new →
          RefusesOne s version boards events outcomes (number + 1) n
      refuses_one n why numbered refuses =
          let r = refuses_at why less here h.at refuses in record {
            w = h.w;
            ms = h.ms;
            before = number;
            event = event;
            why = why;
            v = r.0;
            run = h.at.run;
            counted = refl;
            next = r.1;
            refused = r.2;
            numbered = numbered;
          }
