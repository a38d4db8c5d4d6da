use Rattle.std.specs.Fmt.{HasWritten, IsPlainFormatter}
use Rattle.std.specs.List.{flat_map, range_with_len}
use Rattle.qr.specs.Print.{row_behind}
use Rattle.qr.proofs.printing.CodeDisplay.fmt.Given as goal

abbrev pub invariant-loop-row : goal.invariant-loop-row
invariant-loop-row g l =
    IsPlainFormatter l.initial.f
    → HasWritten g.W.Write.write_str_gives l.initial.f (flat_map (row_behind l.self) (range_with_len 0 l.row)) l.f
