-- What the code requires of the answers that it prints.
use Rattle.notation.specs.Written.{IsEntry}
use Rattle.station_texts.specs.declared.said.Said.{Said}
use Rattle.station_texts.specs.declared.said.Said.TheVariants.{Penned, Plan, Refused}
use Rattle.plans.specs.Planning.{IsFinePlanned}

-- the entry penned or refused, and those of a plan, have their numbers in range
abbrev pub IsFine : Said → Type 0
IsFine (Penned e settled) = IsEntry e
IsFine (Refused e why) = IsEntry e
IsFine (Plan planned) = IsFinePlanned planned
IsFine said = Unit {0}
