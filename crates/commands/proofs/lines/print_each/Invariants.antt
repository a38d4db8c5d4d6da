use Rattle.std.proofs.Common.{◌≡◌, take}
use Rattle.std.specs.List.{All}
use Rattle.notation.specs.Written.{IsEntry}
use Rattle.streams.specs.Watched.{stream_of, failures}
use Rattle.cards.proofs.Pages.{CopiedFrom}
use Rattle.commands.specs.Lines.{full_line}
use Rattle.commands.proofs.lines.print_each.Given as goal

abbrev pub invariant-loop-place : goal.invariant-loop-place
invariant-loop-place g l =
    CopiedFrom full_line (g.B.BookOf.content l.book) 0 l.place
    (g.W.Sink.contents (stream_of l.initial.out)) (g.W.Sink.contents (stream_of l.out))
    × All IsEntry (take l.place (g.B.BookOf.content l.book))
    × (failures l.out ≡ failures l.initial.out)
