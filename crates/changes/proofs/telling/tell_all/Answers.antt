use Rattle.std.proofs.Common.{◌∷◌, []}
use Rattle.changes.specs.declared.change.{Part.Part, Change.Change}
use Rattle.changes.specs.Changes.{all_changes, in_all, of_sides, of_totals}
use Rattle.changes.proofs.TellingLemmas.{tells_both}
use Rattle.changes.proofs.telling.tell_all.Goals as goal

pub returns-clause-text : goal.returns-clause-text
unfolding all_changes
returns-clause-text g c =
    let known = g.W.Sink.contents in
    let end = c.tell_part-3.new.out in
    tells_both known _ c.args.out.now c.tell_part.new.out end _ _ _ (in_all (of_sides Part.Fate)) _ c.in_ok-told.ensures.text
    (tells_both known _ c.tell_part.new.out c.tell_all_totals.new.out end _ _ _ (in_all of_totals) _ c.in_ok-told-2.ensures.text
    (tells_both known _ c.tell_all_totals.new.out c.tell_match.new.out end _ _ _ (Change.Result ∷ Change.Strike ∷ []) _ c.in_ok-told-3.ensures.text
    (tells_both known _ c.tell_match.new.out c.tell_part-2.new.out end _ _ _ (in_all (of_sides Part.Figures)) _ c.in_ok-told-4.ensures.text c.tell_part-3.ensures.text)))
