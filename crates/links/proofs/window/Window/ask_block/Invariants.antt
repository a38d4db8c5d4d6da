use Rattle.links.specs.Windows.{IsStill}
use Rattle.links.proofs.window.Window.ask_block.Given as goal

abbrev pub invariant-loop-place : goal.invariant-loop-place
invariant-loop-place g l = IsStill l.fn.self l.self
