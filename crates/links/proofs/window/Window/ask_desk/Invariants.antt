use Rattle.links.specs.Windows.{IsStill}
use Rattle.links.proofs.window.Window.ask_desk.Given as goal

abbrev pub invariant-loop : goal.invariant-loop
invariant-loop g l = IsStill l.fn.self l.self
