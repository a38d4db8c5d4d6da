use Rattle.std.proofs.Common.{◌≤◌, ◌+◌, length}
use Rattle.schedule_replay.specs.inner.ShownScores.{IsKept}
use Rattle.schedule_replay.proofs.ShowLemmas.{NotedBelow, ScoredBelow}
use Rattle.schedule_replay.proofs.world.World.note.Given as goal

abbrev pub invariant-loop-number : goal.invariant-loop-number
invariant-loop-number l =
    NotedBelow l.fn.self (l.number + 2) l.fn.shown.seen.items l.shown.seen.items
    × IsKept l.shown × (l.number ≤ length l.fn.self.boards.items) × ScoredBelow l.fn.self l.number
