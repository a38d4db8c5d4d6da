use Rattle.std.proofs.Common.{refl, ap, ◌∙◌}
use Rattle.agree_core.specs.declared.messages.DeskId.{DeskId}
use Rattle.headline.specs.declared.event.Station.{Station}
use Rattle.schedule_replay.proofs.WorldLemmas.{at_desk}
use Rattle.schedule_replay.proofs.world.World.at_desk.Goals as goal

pub returns-in-A : goal.returns-in-A
returns-in-A c =
    let p = at_desk DeskId.A c.args.self.now _ c.take.new.self c.args.event.now c.take.result (c.requires.here ∙ ap Station.Desk c.in-A.is)
    (record { here = refl; there = refl; same_game = refl; same_innings = refl; boards = refl; same = c.take.ensures.same })
    c.take.ensures.takes c.take.ensures.planned c.take.ensures.counted in
    record { step = p.0; refused = p.1; same = record { same_game = refl; same_innings = refl } }

pub returns-in-B : goal.returns-in-B
returns-in-B c =
    let p = at_desk DeskId.B c.args.self.now _ c.take-in-B.new.self c.args.event.now c.take-in-B.result (c.requires.here ∙ ap Station.Desk c.in-B.is)
    (record { here = refl; there = refl; same_game = refl; same_innings = refl; boards = refl; same = c.take-in-B.ensures.same })
    c.take-in-B.ensures.takes c.take-in-B.ensures.planned c.take-in-B.ensures.counted in
    record { step = p.0; refused = p.1; same = record { same_game = refl; same_innings = refl } }
