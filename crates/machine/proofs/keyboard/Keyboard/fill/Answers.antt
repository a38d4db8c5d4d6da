use Rattle.std.proofs.Common.{arith}
use Rattle.machine.proofs.KeyboardLemmas.{none_follows}
use Rattle.machine.proofs.keyboard.Keyboard.fill.Goals as goal

pub invariant_of-self : goal.invariant_of-self
invariant_of-self g c = record {
  at_end = λ ended unfailed. none_follows _ (c.in-Ok-eq0.ensures.bytes.1 (grind (arith, c.in-Ok-eq0.field-0-test)) (grind (arith, c.remaining_capacity-room.ensures, c.requires.room)));
}
