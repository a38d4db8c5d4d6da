use Rattle.std.proofs.Common.{codes, refl, rules, arith}
use Rattle.std.proofs.lemmas.Slice.Eq.{text_from_reads}
use Rattle.notation.proofs.words.CauseWord.of.Goals as goal

pub returns-in-allout : goal.returns-in-allout
returns-in-allout c = rw (text_from_reads c.args.token.now (codes "allout") (omega (arith, c.in-allout.len_at_least, c.in-allout.len_below)) (search rules)) refl

pub returns-in-nobatter : goal.returns-in-nobatter
returns-in-nobatter c = rw (text_from_reads c.args.token.now (codes "nobatter") (omega (arith, c.in-nobatter.len_at_least, c.in-nobatter.len_below)) (search rules)) refl

pub returns-in-declared : goal.returns-in-declared
returns-in-declared c = rw (text_from_reads c.args.token.now (codes "declared") (omega (arith, c.in-declared.len_at_least, c.in-declared.len_below)) (search rules)) refl

pub returns-in-forfeited : goal.returns-in-forfeited
returns-in-forfeited c = rw (text_from_reads c.args.token.now (codes "forfeited") (omega (arith, c.in-forfeited.len_at_least, c.in-forfeited.len_below)) (search rules)) refl
