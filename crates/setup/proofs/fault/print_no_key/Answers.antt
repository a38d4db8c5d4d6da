use Rattle.std.specs.Prelude.{codes}
use Rattle.setup.proofs.LineLemmas.{with_words}
use Rattle.setup.proofs.fault.print_no_key.Goals as goal

pub returns-clause-text : goal.returns-clause-text
returns-clause-text g c =
    with_words c.writeln.result _ _ (codes "cannot read ") c.args.path.now (codes ": ") c.words-words.result.now _ (codes "\n")
    c.words-words.ensures c.writeln.ensures.bytes
