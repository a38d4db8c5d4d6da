use Rattle.schedule_replay.specs.inner.WorldBoards.{AreFresh}
use Rattle.schedule_replay.proofs.boards.empty_boards.Given as goal

abbrev pub invariant-loop : goal.invariant-loop
invariant-loop l = AreFresh l.game l.innings_a_side l.counter l.boards.items
