use Rattle.std.proofs.Common.{◌≡◌, take}
use Rattle.corrections.specs.Overs.{balls_of}
use Rattle.score_rows.specs.Fit.{behind}
use Rattle.score_rows.specs.Row.{marks}
use Rattle.score_rows.proofs.marks.marks_room.Given as goal

abbrev pub invariant-loop-placed : goal.invariant-loop-placed
invariant-loop-placed l = l.room ≡ behind l.initial.room (marks (balls_of (take l.placed-index l.over)))
