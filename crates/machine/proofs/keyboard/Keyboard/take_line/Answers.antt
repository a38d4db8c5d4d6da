use Rattle.std.proofs.Common.{arith}
use Rattle.machine.proofs.KeyboardLemmas.{ends_within, line_given, rest_passed, was_put}
use Rattle.machine.proofs.keyboard.Keyboard.take_line.Goals as goal

pub returns-then-is_rest-clause-lines : goal.returns-then-is_rest-clause-lines
returns-then-is_rest-clause-lines g c =
    rw (c.if-is_rest.true, c.behind-self.ensures) (rest_passed c.args.self.now.held.items c.args.count _ c.requires)

pub returns-else-is_rest-clause-lines : goal.returns-else-is_rest-clause-lines
returns-else-is_rest-clause-lines g c =
    let within = ends_within c.args.self.now.held.items c.args.count c.requires in
    let fits = rw c.as_slice.ensures.value at c.as_slice.ensures.fits in
    rw (c.if-is_rest.false, c.behind-self.ensures) (line_given c.args.self.now.held.items c.put.new.buffer c.args.count _ c.requires (omega (arith, within, fits)) (was_put c.args.self.now.held.items _ c.put.new.buffer c.args.count c.as_slice.ensures.value (omega (arith, within)) c.put.ensures))
