use Rattle.std.proofs.Common.{◌≡◌, ◌≤◌, ◌*◌, take}
use Rattle.ball_laws.specs.Sums.{tally}
use Rattle.match_laws.specs.Figures.{runs_of}
use Rattle.corrections.specs.Overs.{balls_of}
use Rattle.score_rows.proofs.marks.runs_of.Given as goal

abbrev pub invariant-loop-placed : goal.invariant-loop-placed
invariant-loop-placed l = record {
  sum : l.runs ≡ tally runs_of (balls_of (take l.placed-index l.over));
  most : l.runs ≤ 260 * l.placed-index;
}
