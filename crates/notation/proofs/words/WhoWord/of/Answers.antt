use Rattle.std.proofs.Common.{codes, refl, rules, arith}
use Rattle.std.proofs.lemmas.Slice.Eq.{text_from_reads}
use Rattle.notation.proofs.words.WhoWord.of.Goals as goal

pub returns-in-striker : goal.returns-in-striker
returns-in-striker c = rw (text_from_reads c.args.token.now (codes "striker") (omega (arith, c.in-striker.len_at_least, c.in-striker.len_below)) (search rules)) refl
