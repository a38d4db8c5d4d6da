use Rattle.std.proofs.Common.{arith}
use Rattle.machine.proofs.KeyboardLemmas.{over}
use Rattle.machine.proofs.keyboard.Keyboard.is_over.Goals as goal

pub returns : goal.returns
returns g c = λ none unfailed.
    over c.args.self.now.skips c.args.self.now.held.items _ (c.args.self.now.at_end (grind (arith, c.if-not-self.false)) unfailed)
    (grind (arith, c.is_none.ensures, c.first_line.ensures, none)) (grind (arith, c.if-is_full.false, c.is_full.ensures.fits))
