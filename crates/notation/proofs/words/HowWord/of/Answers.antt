use Rattle.std.proofs.Common.{codes, refl, rules, arith}
use Rattle.std.proofs.lemmas.Slice.Eq.{text_from_reads}
use Rattle.notation.proofs.words.HowWord.of.Goals as goal

pub returns-in-bowled : goal.returns-in-bowled
returns-in-bowled c = rw (text_from_reads c.args.token.now (codes "bowled") (omega (arith, c.in-bowled.len_at_least, c.in-bowled.len_below)) (search rules)) refl

pub returns-in-caught : goal.returns-in-caught
returns-in-caught c = rw (text_from_reads c.args.token.now (codes "caught") (omega (arith, c.in-caught.len_at_least, c.in-caught.len_below)) (search rules)) refl

pub returns-in-runout : goal.returns-in-runout
returns-in-runout c = rw (text_from_reads c.args.token.now (codes "runout") (omega (arith, c.in-runout.len_at_least, c.in-runout.len_below)) (search rules)) refl

pub returns-in-stumped : goal.returns-in-stumped
returns-in-stumped c = rw (text_from_reads c.args.token.now (codes "stumped") (omega (arith, c.in-stumped.len_at_least, c.in-stumped.len_below)) (search rules)) refl

pub returns-in-hittwice : goal.returns-in-hittwice
returns-in-hittwice c = rw (text_from_reads c.args.token.now (codes "hittwice") (omega (arith, c.in-hittwice.len_at_least, c.in-hittwice.len_below)) (search rules)) refl

pub returns-in-hitwicket : goal.returns-in-hitwicket
returns-in-hitwicket c = rw (text_from_reads c.args.token.now (codes "hitwicket") (omega (arith, c.in-hitwicket.len_at_least, c.in-hitwicket.len_below)) (search rules)) refl

pub returns-in-obstructing : goal.returns-in-obstructing
returns-in-obstructing c = rw (text_from_reads c.args.token.now (codes "obstructing") (omega (arith, c.in-obstructing.len_at_least, c.in-obstructing.len_below)) (search rules)) refl
