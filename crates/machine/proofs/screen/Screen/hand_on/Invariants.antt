use Rattle.std.proofs.Common.{◌≡◌}
use Rattle.machine.specs.Screens.{written_of}
use Rattle.machine.proofs.screen.Screen.hand_on.Given as goal

abbrev pub invariant-loop : goal.invariant-loop
invariant-loop g l = written_of l.self ≡ written_of l.initial.self
