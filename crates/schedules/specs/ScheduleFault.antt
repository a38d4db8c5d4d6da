-- The number and the name of each reason why a text is no schedule. Running out of memory has no number.
use Rattle.std.specs.Prelude.{ℕ, List, codes, Option, Some, None}
use Rattle.schedules.specs.declared.schedule_fault.ScheduleFault.{ScheduleFault}
use Rattle.schedules.specs.declared.schedule_fault.ScheduleFault.TheVariants.{NoMemory, BadEvent, BadEntry}

abbrev pub number_of : ScheduleFault → Option ℕ
number_of NoMemory = None
number_of (BadEvent line) = Some 85
number_of (BadEntry line fault) = Some 86

abbrev pub name_of : ScheduleFault → List ℕ
name_of NoMemory = codes "NoMemory"
name_of (BadEvent line) = codes "BadEvent"
name_of (BadEntry line fault) = codes "BadEntry"
