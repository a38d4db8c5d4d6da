use Rattle.std.proofs.Common.{refl}
use Rattle.score_rows.specs.Row.{front}
use Rattle.score_rows.proofs.front.front.Goals as goal

pub returns : goal.returns
unfolding front
returns c = λ n h s.
    rw (c.team.ensures n h s, c.runs.ensures n h s, c.overs.ensures n h s, c.batters.ensures n h s) refl
