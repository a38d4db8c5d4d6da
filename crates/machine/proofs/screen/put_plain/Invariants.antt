use Rattle.std.proofs.Common.{◌≡◌, ◌++◌, map, take}
use Rattle.machine.specs.Rows.{plain}
use Rattle.machine.proofs.screen.put_plain.Given as goal

-- the bytes so far are appended
abbrev pub invariant-loop-byte : goal.invariant-loop-byte
invariant-loop-byte l = l.out.items ≡ l.initial.out.items ++ map plain (take l.byte-index l.bytes)
