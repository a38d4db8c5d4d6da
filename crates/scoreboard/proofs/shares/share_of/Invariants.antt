use Rattle.std.proofs.Common.{◌≤◌, ◌*◌, drop}
use Rattle.corrections.specs.CleanList.{kept}
use Rattle.scoreboard.proofs.ShareLemmas.{Sharing}
use Rattle.scoreboard.proofs.shares.share_of.Given as goal

-- each item has at most 260 runs
abbrev pub invariant-loop-index : goal.invariant-loop-index
invariant-loop-index l =
    Sharing l.player (kept l.items) (kept (drop l.index l.items)) l.crease l.share × (l.share.runs ≤ 260 * l.index) × (l.share.balls ≤ l.index)
