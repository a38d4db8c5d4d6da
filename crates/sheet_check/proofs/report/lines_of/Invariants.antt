use Rattle.std.proofs.Common.{◌≡◌, ◌++◌, drop, map, string_bytes}
use Rattle.sheet_check.specs.Reports.{fault_of, told}
use Rattle.sheet_check.proofs.report.lines_of.Given as goal

-- the lines so far and those of the faults from here on are all lines
abbrev pub invariant-loop-fault : goal.invariant-loop-fault
invariant-loop-fault l = string_bytes l.out ++ told (map fault_of (drop l.fault-index l.faults)) ≡ told (map fault_of l.faults)
