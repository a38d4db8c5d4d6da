-- Events: which of them a run takes, and which station each is for.
use Rattle.std.specs.Prelude.{◌≤◌}
use Rattle.notation.specs.Written.{IsEntry}
use Rattle.headline.specs.declared.event.{Event.Event, Station.Station}

-- the numbers of an event are in their ranges
abbrev pub IsEvent : Event → Type 0
IsEvent (Event.Pen d e) = IsEntry e
IsEvent (Event.FailAt d n) = 1 ≤ n
IsEvent (Event.StopAt d n) = 1 ≤ n
IsEvent _ = Unit {0}

-- the station that an event is for
abbrev pub station_of : Event → Station
station_of (Event.Pen d e) = Station.Desk d
station_of (Event.Tick s) = s
station_of (Event.Give n s) = s
station_of (Event.Kill d) = Station.Desk d
station_of (Event.Power d choice) = Station.Desk d
station_of (Event.FailAt d n) = Station.Desk d
station_of (Event.StopAt d n) = Station.Desk d
station_of (Event.Open d) = Station.Desk d
station_of (Event.Wipe n) = Station.Board n
station_of (Event.Migrate d) = Station.Desk d
