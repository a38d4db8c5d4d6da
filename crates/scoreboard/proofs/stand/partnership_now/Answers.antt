use Rattle.std.proofs.Common.{ap, Some, refl}
use Rattle.scoreboard.proofs.ShareLemmas.{played}
use Rattle.scoreboard.proofs.stand.partnership_now.Goals as goal

pub partnership_of-requires : goal.partnership_of-requires
partnership_of-requires g c = played _ _ c.score-score.ensures.score.legal

pub returns-then-is_open : goal.returns-then-is_open
returns-then-is_open g c =
    let stands = c.score-score.ensures.score in
    rw (← c.is_open.ensures _ _ stands, c.if-is_open.true, ← c.ends.ensures _ _ stands) (ap Some c.partnership_of.ensures)

pub returns-else-is_open : goal.returns-else-is_open
returns-else-is_open g c = rw (← c.is_open.ensures _ _ c.score-score.ensures.score, c.if-is_open.false) refl
