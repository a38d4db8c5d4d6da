use Rattle.live.specs.Outside.{logs_of}
use Rattle.desk_command.proofs.KeepingLemmas.{lived}
use Rattle.desk_command.proofs.life.keep.Goals as goal

pub returns : goal.returns
returns g c =
    let r = c.requires in
    λ ring began. lived c.args.sheet.now _ c.args.beginning.desk c.args.beginning.disk ring (logs_of g.L.Link.log g.K.Keys.inputs g.C.Clock.readings g.W.Sink.contents g.T.Tells.tellings c.args.outside.now) (logs_of g.L.Link.log g.K.Keys.inputs g.C.Clock.readings g.W.Sink.contents g.T.Tells.tellings c.keep_desk.new.outside) _ _
    r.innings began r.untyped r.untold r.none c.keep_desk.ensures.lives
