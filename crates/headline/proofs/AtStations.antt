-- What a step leaves at each station: what was there, or what the event does there.
use Rattle.std.proofs.Common.{◌≡◌, ◌≢◌, ◌⊎◌, ℕ, Some, List, arith}
use Rattle.agree_core.specs.declared.messages.{DeskId.DeskId, Message.Message}
use Rattle.agree_core.specs.Boards.{BoardState}
use Rattle.headline.specs.declared.{event.Event.Event, event.Station.Station}
use Rattle.headline.specs.Setting.{Setting}
use Rattle.headline.specs.Configurations.{Configuration, board_at, node}
use Rattle.headline.specs.Answers.{Answer}
use Rattle.headline.specs.DeskSteps.{AtDesk}
use Rattle.headline.specs.BoardSteps.{AtBoard}
use Rattle.headline.specs.Steps.{StepAt}
use Rattle.headline.proofs.Heeding.{board_other, board_put}

module _ {Disk Why : Type 0} (s : Setting Disk Why) (w : Configuration Disk) (event : Event) (answer : Answer Why) (new : Configuration Disk) where
  pub at_desk : (t : Station) (d : DeskId) → StepAt s w event t answer new
      → ((t ≢ Station.Desk d) × (node new d ≡ node w d)) ⊎ ((t ≡ Station.Desk d) × (out : List Message) × AtDesk s w.sent d event (node w d) answer (node new d) out)
  at_desk h0 d p = grind arith

  pub at_board : (t : Station) (n : ℕ) → StepAt s w event t answer new
      → ((t ≢ Station.Board n) × (board_at new.boards n ≡ board_at w.boards n))
      ⊎ ((t ≡ Station.Board n) × (k : BoardState) × (l : BoardState) × (out : List Message) × (board_at w.boards n ≡ Some k) × (board_at new.boards n ≡ Some l)
      × AtBoard s w.sent event k answer l out)
  at_board t n p = grind (arith, board_other, board_put)
