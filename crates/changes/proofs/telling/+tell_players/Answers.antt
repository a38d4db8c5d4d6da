use Rattle.std.proofs.Common.{◌∷◌, []}
use Rattle.changes.specs.Changes.{of_players}
use Rattle.changes.proofs.TellingLemmas.{tells_both}
use Rattle.changes.proofs.telling.+tell_players.Goals as goal

pub returns-clause-text : goal.returns-clause-text
returns-clause-text g t c =
    let of = of_players c.args.part c.args.innings c.args.side in
    let both = tells_both g.W.Sink.contents c.args.stages.sheet.now c.args.out.now c.tell.new.out c.tell_players.new.out _ _ _ (of (c.in-Some-new.player ∷ [])) _ c.in_ok-told.ensures.text c.tell_players.ensures.text in
    rw (c.in-Some.ensures.cases.0, ← c.in-Some-new.ensures.value) both
