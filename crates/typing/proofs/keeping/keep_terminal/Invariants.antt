use Rattle.typing.specs.Terminals.{begun}
use Rattle.typing.proofs.KeepingLemmas.{IsKept}
use Rattle.typing.proofs.keeping.keep_terminal.Given as goal

abbrev pub invariant-loop : goal.invariant-loop
invariant-loop g l =
    IsKept (begun l.columns) (g.I.Inputs.heard l.inputs) l.kept.terminal l.kept.is_handed
    (g.L.Write.contents l.initial.lines) (g.L.Write.contents l.lines) (g.S.Write.contents l.initial.screen) (g.S.Write.contents l.screen)
