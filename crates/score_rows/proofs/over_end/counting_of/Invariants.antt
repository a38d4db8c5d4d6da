use Rattle.std.proofs.Common.{◌≡◌, ◌≤◌, take}
use Rattle.ball_laws.specs.Over.{counting}
use Rattle.corrections.specs.Overs.{balls_of}
use Rattle.score_rows.proofs.over_end.counting_of.Given as goal

abbrev pub invariant-loop-placed : goal.invariant-loop-placed
invariant-loop-placed l = record {
  sum : l.count ≡ counting (balls_of (take l.placed-index l.over));
  most : l.count ≤ l.placed-index;
}
