-- How `desk` ends.
use Rattle.std.specs.Prelude.{◌≡◌, ℕ, Bool, true, false, List, [], Option, None, Some, Result, Ok, Err}
use Rattle.ahead.specs.declared.log.AheadLog.{AheadLog}
use Rattle.ahead.specs.Ahead.{held_of, lost_of}
use Rattle.live.specs.declared.desk_life.LifeEnd.{LifeEnd}
use Rattle.live.specs.declared.desk_life.LifeEnd.TheVariants.{Ended, NotBegun}
use Rattle.live.specs.declared.ends.DeskEnd.TheVariants.{Device, NoMoreLines, Quit, Write}
use Rattle.station_texts.specs.Asides.{all_dropped}
use Rattle.setup.specs.Fault.{of_opening}
use Rattle.setup.specs.declared.fault.StopFault.{StopFault}

-- the command's fault, from how its desk's process ended and whether its keyboard failed: none if its scorer stopped it
abbrev pub stop_of : Result (Unit {0}) LifeEnd → Bool → Option StopFault
stop_of (Ok done) failed = None
stop_of (Err (NotBegun why)) failed = Some (of_opening why)
stop_of (Err (Ended Quit)) failed = None
stop_of (Err (Ended NoMoreLines)) true = Some StopFault.Read
stop_of (Err (Ended NoMoreLines)) false = None
stop_of (Err (Ended Write)) failed = Some StopFault.Write
stop_of (Err (Ended Device)) failed = Some StopFault.Disk

-- its scorer stopped it, or its turns were over: with a keyboard that failed, or with one that didn't, it has no fault
abbrev pub WasStopped : Result (Unit {0}) LifeEnd → Type 0
WasStopped ended = (failed : Bool) × (stop_of ended failed ≡ None)

-- The last text that is told, in rows of this width, by how the desk's process ended: which lines are dropped, if it ended by
-- itself. If its scorer stopped it, that was told before; if it can't write, nothing is told.
abbrev pub last_told : Result (Unit {0}) LifeEnd → ℕ → AheadLog → List ℕ
last_told (Err (Ended Device)) columns log = all_dropped columns (held_of log) (lost_of log)
last_told ended columns log = []
