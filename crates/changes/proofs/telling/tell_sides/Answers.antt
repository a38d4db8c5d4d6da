use Rattle.notation.specs.declared.entry.Side.TheVariants.{Home}
use Rattle.ball_laws.specs.Over.{numbers}
use Rattle.changes.specs.Changes.{of_players}
use Rattle.changes.proofs.TellingLemmas.{tells_both}
use Rattle.changes.proofs.telling.tell_sides.Goals as goal

pub returns-clause-text : goal.returns-clause-text
returns-clause-text g c =
    tells_both g.W.Sink.contents _ c.args.out.now c.tell_side.new.out c.tell_side-2.new.out _ _ _ (of_players c.args.part c.args.innings Home numbers) _
    c.in_ok-told.ensures.text c.tell_side-2.ensures.text
