-- The stations that a world lends.
use Rattle.std.specs.Prelude.{◌≡◌, ℕ, List, map, All, IfSome, option_map, Option, Some, None}
use Rattle.entry_log.specs.declared.mem_disk.MemDisk.{MemDisk}
use Rattle.agree_core.specs.Desks.{DeskState}
use Rattle.world_desks.specs.declared.any_desk.AnyDesk.{AnyDesk}
use Rattle.world_desks.specs.Lent.{lent_desk}
use Rattle.schedule_replay.specs.declared.world.World.{World}
use Rattle.headline.specs.Configurations.{Process, Running, Down, Configuration}
use Rattle.world_desks.specs.WorldDesks.{game_of, innings_of, state_of}
use Rattle.schedule_replay.specs.CodeWorlds.{IsBoardOf, HasConfiguration, MatchBoard, board_state}

-- the running desk, if there is one
abbrev pub running_of : Process MemDisk → Option (DeskState MemDisk)
running_of (Running k) = Some k
running_of (Down votes disk) = None

-- a running desk is lent, and a desk that is down isn't; the lent desk and its book are of the match
pub record LendsDesk (game innings : ℕ) (process : Process MemDisk) (k : Option AnyDesk) : Type 0 where
  pub state : option_map (λ d. state_of (lent_desk d)) k ≡ running_of process
  pub of_match : IfSome k (λ d. (game_of (lent_desk d) ≡ game) × (innings_of (lent_desk d) ≡ innings))

-- the running desks and the boards of a configuration are lent
pub record Lends
    (world : World) (w : Configuration MemDisk) (a b : Option AnyDesk) (boards : List MatchBoard) : Type 0 where
  pub desk_a : LendsDesk world.game world.innings_a_side w.a.process a
  pub desk_b : LendsDesk world.game world.innings_a_side w.b.process b
  pub states : map board_state boards ≡ w.boards
  pub of_match : All (IsBoardOf world.game world.innings_a_side) boards

-- the stations of the world's configuration are lent
abbrev pub LendsStations : World → Option AnyDesk → Option AnyDesk → List MatchBoard → Type 0
LendsStations world a b boards = (w : Configuration MemDisk) → HasConfiguration world w → Lends world w a b boards
