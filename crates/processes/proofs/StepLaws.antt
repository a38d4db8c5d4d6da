-- The laws of one moment.
use Rattle.std.proofs.Common.{ℕ, List, [], refl}
use Rattle.entry_log.specs.Disk.{Images}
use Rattle.headline.specs.Match.{setting_of}
use Rattle.headline.specs.Configurations.{Running}
use Rattle.processes.specs.Happenings.{BoardBegun, DeskCalled, with_process}
use Rattle.processes.specs.Laws.{BoardStepsInRun, DeskStepsInRun}
use Rattle.processes.proofs.Going.{goes_from}
use Rattle.processes.proofs.BoardSteps.{board_moment, with_it}
use Rattle.processes.proofs.DeskSteps.{desk_moment}

module _ {Disk : Type 0} (seen : Disk → List ℕ) (images : Disk → Images) where
  pub boards_step : BoardStepsInRun seen images
  boards_step contents game innings w ms r v e n k l call out at came h =
      let s = setting_of contents seen images game innings in
      goes_from s game (BoardBegun n) w ms v (with_it v n l out) e r (board_moment s game innings refl v (BoardBegun n) n k l out at call (λ q. absurd q) came h)

  pub desks_step : DeskStepsInRun seen images
  desks_step contents game innings w ms r v e d sheet k l call out at calm came h =
      let s = setting_of contents seen images game innings in
      goes_from s game (DeskCalled d sheet call out l []) w ms v (with_process v d (Running l) out) e r (desk_moment s game innings refl v d calm [] sheet k l out at call came h)
