use Rattle.desk.specs.Desk.{state_of}
use Rattle.live.specs.DeskSights.{IsShown}
use Rattle.live.specs.Desks.{DeskGoes, innings_of, kind_of, process_of}
use Rattle.live.specs.Ends.{further}
use Rattle.live.specs.Outside.{logs_of}
use Rattle.live.specs.Paces.{ticking_of}
use Rattle.station_texts.specs.Texts.{unwarned}
use Rattle.live.specs.Ticks.{unticked}
use Rattle.live.proofs.desk_life.take_turns.Given as goal

abbrev pub invariant-loop-number : goal.invariant-loop-number
invariant-loop-number g l =
    DeskGoes l.sheet l.initial.desk l.desk
    (process_of l.initial.desk unwarned 0 unticked further) (process_of l.desk l.between.warned l.number (ticking_of l.between.pace) further)
    (logs_of g.L.Link.log g.K.Keys.inputs g.C.Clock.readings g.W.Sink.contents g.T.Tells.tellings l.initial.outside) (logs_of g.L.Link.log g.K.Keys.inputs g.C.Clock.readings g.W.Sink.contents g.T.Tells.tellings l.outside)
    × IsShown (kind_of l.sheet l.initial.desk) l.sheet (innings_of l.initial.desk) g.P.ShowsDesk.goes_on (state_of l.initial.desk) l.initial.page l.page
