use Rattle.std.proofs.Common.{codes, refl, rules, arith}
use Rattle.std.proofs.lemmas.Slice.Eq.{text_from_reads}
use Rattle.notation.proofs.words.FirstWord.of.Goals as goal

pub returns-in-innings : goal.returns-in-innings
returns-in-innings c = rw (text_from_reads c.args.token.now (codes "innings") (omega (arith, c.in-innings.len_at_least, c.in-innings.len_below)) (search rules)) refl

pub returns-in-penalty : goal.returns-in-penalty
returns-in-penalty c = rw (text_from_reads c.args.token.now (codes "penalty") (omega (arith, c.in-penalty.len_at_least, c.in-penalty.len_below)) (search rules)) refl
