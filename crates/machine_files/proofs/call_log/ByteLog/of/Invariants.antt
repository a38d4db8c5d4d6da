use Rattle.std.proofs.Common.{◌≡◌, take}
use Rattle.machine_files.specs.CallLogs.{bytes_in}
use Rattle.machine_files.proofs.call_log.ByteLog.of.Given as goal

abbrev pub invariant-loop-byte : goal.invariant-loop-byte
invariant-loop-byte l = bytes_in l.log ≡ take l.byte-index l.bytes
