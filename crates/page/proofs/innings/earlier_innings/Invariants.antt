use Rattle.std.proofs.Common.{◌≡◌, ◌≤◌}
use Rattle.match_laws.specs.Stands.{ForEachHistory}
use Rattle.cards.specs.Batting.{earlier_innings}
use Rattle.page.proofs.innings.earlier_innings.Given as goal

abbrev pub invariant-loop-earlier : goal.invariant-loop-earlier
invariant-loop-earlier l =
    ForEachHistory l.score (λ n h. l.count ≡ earlier_innings h l.side l.earlier) × (l.count ≤ l.earlier)
