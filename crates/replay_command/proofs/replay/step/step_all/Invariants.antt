use Rattle.std.proofs.Common.{◌≡◌, ◌≤◌}
use Rattle.std.specs.Prelude.{vec_capacity, vec_len}
use Rattle.replay_command.proofs.WorldRuns.{IsStepping}
use Rattle.replay_command.proofs.replay.step.step_all.Given as goal

-- the world has taken the events so far, and there is room for the answers to the rest
abbrev pub invariant-loop-before : goal.invariant-loop-before
invariant-loop-before l =
    IsStepping l.fn.sheet l.fn.version l.fn.boards l.fn.events l.before l.world l.outcomes.items
    × (l.before-end ≤ vec_capacity l.outcomes) × (vec_len l.outcomes ≡ l.before) × (l.before ≤ l.before-end)
