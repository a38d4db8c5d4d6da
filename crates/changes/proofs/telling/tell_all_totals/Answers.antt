use Rattle.changes.specs.Changes.{of_totals}
use Rattle.changes.proofs.TellingLemmas.{tells_both}
use Rattle.changes.proofs.telling.tell_all_totals.Goals as goal

pub returns-clause-text : goal.returns-clause-text
returns-clause-text g c =
    let known = g.W.Sink.contents in
    let end = c.tell_totals-4.new.out in
    tells_both known _ c.args.out.now c.tell_totals.new.out end _ _ _ (of_totals 0) _ c.in_ok-told.ensures.text
    (tells_both known _ c.tell_totals.new.out c.tell_totals-2.new.out end _ _ _ (of_totals 1) _ c.in_ok-told-2.ensures.text
    (tells_both known _ c.tell_totals-2.new.out c.tell_totals-3.new.out end _ _ _ (of_totals 2) _ c.in_ok-told-3.ensures.text c.tell_totals-4.ensures.text))
