use Rattle.std.proofs.Common.{◌≤◌, ℕ}
use Rattle.headline.specs.declared.version.FileVersion.{FileVersion}
use Rattle.schedule_replay.specs.inner.RunsSoFar.{HasTaken}
use Rattle.schedule_replay.proofs.report.end_unreported.Given as goal

abbrev pub invariant-loop-number : goal.invariant-loop-number
invariant-loop-number l =
    ((game innings boards : ℕ) (version : FileVersion) → HasTaken game innings version boards l.fn.events l.fn.after l.fn.world
    → HasTaken game innings version boards l.fn.events l.number l.world)
    × (l.number ≤ l.number-end)
