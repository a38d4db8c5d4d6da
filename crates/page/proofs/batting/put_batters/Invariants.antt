use Rattle.std.specs.Prelude.{string_bytes}
use Rattle.match_laws.specs.Stands.{ForEachHistory}
use Rattle.cards.proofs.Slots.{SoFar}
use Rattle.page.specs.Batting.{batter_html}
use Rattle.page.proofs.Growing.{Grows}
use Rattle.page.proofs.batting.put_batters.Given as goal

abbrev pub invariant-loop-place : goal.invariant-loop-place
invariant-loop-place l = ForEachHistory l.score (λ n h.
    SoFar Grows (λ k. batter_html l.sheet h l.innings) l.place-items l.place-index 0 (string_bytes l.initial.out) (string_bytes l.out))
