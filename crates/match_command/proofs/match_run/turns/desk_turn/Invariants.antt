use Rattle.desk.specs.Desk.{game_of}
use Rattle.notation.specs.declared.entry.Entry.{Entry}
use Rattle.std.proofs.Common.{List}
use Rattle.match_command.specs.inner.Online.{StaysOnline}
use Rattle.match_command.specs.inner.Turns.{InTurn, KeepsDisk, KeepsTurn}
use Rattle.match_command.proofs.match_run.turns.desk_turn.Given as goal

abbrev pub invariant-loop : goal.invariant-loop
invariant-loop g l =
    KeepsTurn l.initial.desk l.desk × KeepsDisk l.initial.desk l.desk
    × ((entries : List Entry) → InTurn entries l.fn.desk → StaysOnline (game_of l.fn.desk) entries (g.L.Link.log l.fn.link) (g.L.Link.log l.link))
