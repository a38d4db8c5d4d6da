use Rattle.std.proofs.Common.{◌≡◌, ◌≤◌, ◌++◌, length, take, drop}
use Rattle.corrections.specs.Overs.{balls_of}
use Rattle.score_rows.specs.Row.{newest}
use Rattle.score_rows.proofs.marks.newest_of.Given as goal

abbrev pub invariant-loop-from : goal.invariant-loop-from
invariant-loop-from l = record {
  most : l.from ≤ length l.over;
  kept : newest l.initial.room (balls_of l.over)
      ≡ balls_of (drop l.from l.over) ++ newest l.room (balls_of (take l.from l.over));
}

abbrev pub decreases-loop-from : goal.decreases-loop-from
decreases-loop-from l = l.from
