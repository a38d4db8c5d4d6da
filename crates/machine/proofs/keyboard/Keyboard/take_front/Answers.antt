use Rattle.std.proofs.Common.{arith}
use Rattle.machine.proofs.KeyboardLemmas.{front_given, more_passed}
use Rattle.machine.proofs.keyboard.Keyboard.take_front.Goals as goal

pub returns-then-is_rest-clause-lines : goal.returns-then-is_rest-clause-lines
returns-then-is_rest-clause-lines g c =
    rw (c.if-is_rest.true, c.new-self.ensures) (more_passed c.args.self.now.held.items _ c.requires.none)

pub returns-else-is_rest-clause-lines : goal.returns-else-is_rest-clause-lines
returns-else-is_rest-clause-lines g c =
    rw (c.if-is_rest.false, c.new-self.ensures) (front_given c.args.self.now.held.items c.put.new.buffer _ c.requires.none c.requires.full (grind (arith, c.requires.full)))
