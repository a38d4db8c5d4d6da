use Rattle.std.proofs.Common.{◌∷◌, []}
use Rattle.notation.specs.declared.entry.Side.TheVariants.{Home}
use Rattle.changes.specs.declared.change.Change.{Change}
use Rattle.changes.proofs.TellingLemmas.{tells_both}
use Rattle.changes.proofs.telling.tell_totals.Goals as goal

pub returns-clause-text : goal.returns-clause-text
returns-clause-text g c =
    tells_both g.W.Sink.contents _ c.args.out.now c.tell.new.out c.tell-2.new.out _ _ _ (Change.Total c.args.innings Home ∷ []) _
    c.in_ok-told.ensures.text c.tell-2.ensures.text
