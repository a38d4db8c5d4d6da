use Rattle.std.proofs.Common.{◌≡◌, drop, filter}
use Rattle.ball_laws.specs.Over.{numbers}
use Rattle.cards.specs.Sheet.{team_of}
use Rattle.shorthand.specs.Names.{suits, found_in, fitting}
use Rattle.shorthand.proofs.Counts.{with_all}
use Rattle.shorthand.proofs.names.fitting.Given as goal

abbrev pub invariant-loop-number : goal.invariant-loop-number
invariant-loop-number l =
    (l.number-items ≡ numbers)
    × (with_all l.found (filter (λ n. suits l.among l.fit (team_of l.sheet l.side) l.token n) (drop l.number-index l.number-items))
    ≡ found_in (fitting l.among l.fit (team_of l.sheet l.side) l.token))
