use Rattle.std.specs.Fmt.{HasWritten, IsPlainFormatter}
use Rattle.std.specs.List.{flat_map, range_with_len}
use Rattle.qr.specs.Print.{block_at}
use Rattle.qr.proofs.printing.BlocksDisplay.fmt.Given as goal

abbrev pub invariant-loop-column : goal.invariant-loop-column
invariant-loop-column g l =
    IsPlainFormatter l.initial.f
    → HasWritten g.W.Write.write_str_gives l.initial.f (flat_map (block_at l.self.code.now l.self.row) (range_with_len 0 l.column)) l.f
