use Rattle.std.proofs.Common.{◌≡◌}
use Rattle.cards.specs.Columns.{spaces}
use Rattle.streams.specs.Watched.{Prints, failures}
use Rattle.cards.proofs.columns.print_spaces.Given as goal

abbrev pub invariant-loop : goal.invariant-loop
invariant-loop g l =
    Prints g.W.Sink.contents l.initial.out l.out (spaces l.counter) × (failures l.out ≡ failures l.initial.out)
