-- A run of a code's world over the first events.
use Rattle.std.specs.Prelude.{◌≡◌, ℕ, List, take}
use Rattle.entry_log.specs.declared.mem_disk.MemDisk.{MemDisk}
use Rattle.headline.specs.declared.{event.Event.Event, version.FileVersion.FileVersion}
use Rattle.headline.specs.Configurations.{Configuration}
use Rattle.headline.specs.Runs.{last_of}
use Rattle.schedule_replay.specs.declared.{seen.Seen.Seen, world.World.World}
use Rattle.schedule_replay.specs.CodeWorlds.{HasConfiguration}
use Rattle.schedule_replay.specs.Replays.{IsRunOf, MatchRun}

-- a run of the match over the first events, with these outcomes, that ends at the world's configuration
pub record IsAt
    (game innings : ℕ) (version : FileVersion) (boards : ℕ) (events : List Event) (number : ℕ) (world : World)
    (outcomes : List Seen) (w : Configuration MemDisk) (ms : MatchRun) : Type 0 where
  pub run : IsRunOf game innings version boards (take number events) outcomes w ms
  pub has_configuration : HasConfiguration world (last_of w ms)
  pub same_game : world.game ≡ game
  pub same_innings : world.innings_a_side ≡ innings

-- such a run exists
abbrev pub HasTaken : ℕ → ℕ → FileVersion → ℕ → List Event → ℕ → World → Type 0
HasTaken game innings version boards events number world =
    (outcomes : List Seen) × (w : Configuration MemDisk) × (ms : MatchRun)
    × IsAt game innings version boards events number world outcomes w ms
