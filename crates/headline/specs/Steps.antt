-- A step of a configuration, at the station that an event is for.
use Rattle.std.specs.Prelude.{◌≡◌, Some, List, ◌++◌}
use Rattle.agree_core.specs.declared.messages.Message.{Message}
use Rattle.agree_core.specs.Boards.{BoardState}
use Rattle.headline.specs.declared.event.{Event.Event, Station.Station}
use Rattle.headline.specs.Events.{station_of}
use Rattle.headline.specs.Setting.{Setting}
use Rattle.headline.specs.Configurations.{Node, Configuration, board_at, node, with_board, with_node}
use Rattle.headline.specs.Answers.{Answer}
use Rattle.headline.specs.DeskSteps.{AtDesk}
use Rattle.headline.specs.BoardSteps.{AtBoard}

-- an event changes the station that it is for, and adds the messages that this hands out
abbrev pub StepAt :
    {Disk Why : Type 0} → Setting Disk Why → Configuration Disk → Event → Station → Answer Why → Configuration Disk → Type 0
StepAt s w event (Station.Desk d) answer new =
    (y : Node _) × (out : List Message) × AtDesk s w.sent d event (node w d) answer y out
    × (new ≡ with_node w d y out)
StepAt s w event (Station.Board n) answer new =
    (k : BoardState) × (l : BoardState) × (out : List Message) × (board_at w.boards n ≡ Some k)
    × AtBoard s w.sent event k answer l out
    × (new ≡ record w { boards = with_board w.boards n l; sent = w.sent ++ out })

-- the step at the station that the event names
abbrev pub Step :
    {Disk Why : Type 0} → Setting Disk Why → Configuration Disk → Event → Answer Why → Configuration Disk → Type 0
Step s w event answer new = StepAt s w event (station_of event) answer new
