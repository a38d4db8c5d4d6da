use Rattle.streams.proofs.Appending.{appends_both, appends_last}
use Rattle.schedule_replay.specs.CodeWorlds.{board_state}
use Rattle.replay_command.specs.Replay.{board_line}
use Rattle.replay_command.proofs.ReplayTexts.{numbered_map}
use Rattle.replay_command.proofs.replay.print.print_stations.Goals as goal

pub returns-clause-text : goal.returns-clause-text
returns-clause-text g c = λ w is.
    let lends = c.stations.ensures w is in
    let desks = appends_both _ _ _ _ _ c.in_ok-print_desk.ensures.text c.in_ok-print_desk-2.ensures.text in
    rw (← lends.desk_a.state, ← lends.desk_b.state, ← lends.states, numbered_map board_line board_state 1 c.stations.result.2.now)
    (appends_last c.print_boards.result _ _ _ _ _ desks c.print_boards.ensures.text)
