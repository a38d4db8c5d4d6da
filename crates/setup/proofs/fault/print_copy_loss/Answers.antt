use Rattle.std.specs.Prelude.{codes}
use Rattle.setup.proofs.LineLemmas.{with_both}
use Rattle.setup.proofs.fault.print_copy_loss.Goals as goal

pub returns-clause-text : goal.returns-clause-text
returns-clause-text g c =
    with_both c.writeln.result _ _ (codes "cannot write: ") c.args.path.now (codes ": ") c.words-words.result.now _
    (codes "\nthis is the copy: to go on without it, start the same command without --copy\n") c.ending-ending.result.now _ c.ending-ending.ensures c.words-words.ensures
    c.writeln.ensures.bytes
