-- Calm moments of a run: stations tick and are given messages, in any order, with losses, repeats and old messages among them.
use Rattle.std.specs.Prelude.{◌≡◌, ◌⊎◌, false, None, List, [], ◌∷◌}
use Rattle.agree_core.specs.declared.{messages.DeskId.DeskId, position.Position.Position}
use Rattle.agree_core.specs.Desks.{DeskState}
use Rattle.agree_core.specs.Positions.{Before}
use Rattle.headline.specs.declared.event.Event.{Event}
use Rattle.headline.specs.Configurations.{Configuration, Node, Running, node}
use Rattle.headline.specs.Runs.{Moment}

-- a tick, or a message given to a station
abbrev pub IsCalm : Event → Type 0
IsCalm (Event.Tick t) = Unit {0}
IsCalm (Event.Give n t) = Unit {0}
IsCalm _ = ⊥

abbrev pub AllCalm : {Disk Why : Type 0} → List (Moment Disk Why) → Type 0
AllCalm [] = Unit {0}
AllCalm (m ∷ ms) = AllCalm ms × IsCalm m.event

-- the desk of this node runs in this state, its disk hasn't failed, and no fault is due on it
pub record IsUp {Disk : Type 0} (x : Node Disk) (k : DeskState Disk) : Type 0 where
  pub runs : x.process ≡ Running k
  pub sound : k.failed ≡ false
  pub no_fault : x.due ≡ None

abbrev pub BothUp : {Disk : Type 0} → Configuration Disk → Type 0
BothUp w = (d : DeskId) → (k : DeskState _) × IsUp (node w d) k

-- a position is this one or a later one
abbrev pub NotBack : Position → Position → Type 0
NotBack p q = (q ≡ p) ⊎ Before p q
