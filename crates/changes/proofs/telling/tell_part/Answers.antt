use Rattle.changes.specs.Changes.{of_sides}
use Rattle.changes.proofs.TellingLemmas.{tells_both}
use Rattle.changes.proofs.telling.tell_part.Goals as goal

pub returns-clause-text : goal.returns-clause-text
returns-clause-text g c =
    let of = of_sides c.args.part in
    let known = g.W.Sink.contents in
    let end = c.tell_sides-4.new.out in
    tells_both known _ c.args.out.now c.tell_sides.new.out end _ _ _ (of 0) _ c.in_ok-told.ensures.text
    (tells_both known _ c.tell_sides.new.out c.tell_sides-2.new.out end _ _ _ (of 1) _ c.in_ok-told-2.ensures.text
    (tells_both known _ c.tell_sides-2.new.out c.tell_sides-3.new.out end _ _ _ (of 2) _ c.in_ok-told-3.ensures.text c.tell_sides-4.ensures.text))
