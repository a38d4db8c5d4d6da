use Rattle.std.proofs.Common.{codes, refl, rules, arith}
use Rattle.std.proofs.lemmas.Slice.Eq.{text_from_reads}
use Rattle.notation.proofs.words.LeaveWord.of.Goals as goal

pub returns-in-runout : goal.returns-in-runout
returns-in-runout c = rw (text_from_reads c.args.token.now (codes "runout") (omega (arith, c.in-runout.len_at_least, c.in-runout.len_below)) (search rules)) refl

pub returns-in-timedout : goal.returns-in-timedout
returns-in-timedout c = rw (text_from_reads c.args.token.now (codes "timedout") (omega (arith, c.in-timedout.len_at_least, c.in-timedout.len_below)) (search rules)) refl

pub returns-in-retiredout : goal.returns-in-retiredout
returns-in-retiredout c = rw (text_from_reads c.args.token.now (codes "retiredout") (omega (arith, c.in-retiredout.len_at_least, c.in-retiredout.len_below)) (search rules)) refl

pub returns-in-retiredhurt : goal.returns-in-retiredhurt
returns-in-retiredhurt c = rw (text_from_reads c.args.token.now (codes "retiredhurt") (omega (arith, c.in-retiredhurt.len_at_least, c.in-retiredhurt.len_below)) (search rules)) refl
