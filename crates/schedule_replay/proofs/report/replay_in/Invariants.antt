use Rattle.std.proofs.Common.{◌≡◌, ◌≤◌}
use Rattle.std.specs.Prelude.{vec_capacity, vec_len}
use Rattle.schedule_replay.specs.inner.ShownScores.{IsKept}
use Rattle.schedule_replay.specs.CodeWorlds.{boards_of, match_version}
use Rattle.schedule_replay.proofs.ReplayLemmas.{IsAfter}
use Rattle.schedule_replay.proofs.report.replay_in.Given as goal

abbrev pub invariant-loop-number : goal.invariant-loop-number
invariant-loop-number l =
    IsAfter l.fn.world.game l.fn.world.innings_a_side (match_version l.fn.world) (boards_of l.fn.world) l.fn.events l.number l.world l.outcomes.items l.shown.seen.items
    × IsKept l.shown × (l.number-end ≤ vec_capacity l.outcomes) × (vec_len l.outcomes ≡ l.number) × (l.number ≤ l.number-end)
