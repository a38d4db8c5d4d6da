use Rattle.setup.specs.Counting.{BeginAlike}
use Rattle.setup.proofs.counting.same_blocks.Given as goal

abbrev pub invariant-loop-count : goal.invariant-loop-count
invariant-loop-count l = BeginAlike l.count l.first l.second
