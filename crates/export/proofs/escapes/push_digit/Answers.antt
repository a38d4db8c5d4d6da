use Rattle.export.proofs.EscapeLemmas.{digit_byte}
use Rattle.std.proofs.Common.{rules}
use Rattle.export.proofs.escapes.push_digit.Goals as goal

pub returns : goal.returns
returns c = let one = digit_byte c.args.digit c.requires in search rules
