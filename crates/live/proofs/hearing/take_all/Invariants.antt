use Rattle.std.proofs.Common.{ℕ, ◌<◌}
use Rattle.std.specs.Prelude.{IsSome}
use Rattle.live.specs.Desks.{DeskGoes, process_of}
use Rattle.live.specs.Ends.{further}
use Rattle.live.specs.Outside.{logs_of}
use Rattle.live.specs.Paces.{ticking_of}
use Rattle.live.proofs.hearing.take_all.Given as goal

abbrev pub invariant-loop-taken : goal.invariant-loop-taken
invariant-loop-taken g l =
    ((turns : ℕ) → DeskGoes l.sheet l.initial.desk l.desk
    (process_of l.initial.desk l.initial.between.warned turns (ticking_of l.initial.between.pace) further)
    (process_of l.desk l.between.warned turns (ticking_of l.between.pace) further)
    (logs_of g.L.Link.log g.K.Keys.inputs g.C.Clock.readings g.W.Sink.contents g.T.Tells.tellings l.initial.outside) (logs_of g.L.Link.log g.K.Keys.inputs g.C.Clock.readings g.W.Sink.contents g.T.Tells.tellings l.outside))
    × (0 < l.taken → IsSome (ticking_of l.between.pace).looked)
