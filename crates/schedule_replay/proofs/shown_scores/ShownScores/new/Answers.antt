use Rattle.schedule_replay.proofs.NoteLemmas.{empty_kept}
use Rattle.schedule_replay.proofs.shown_scores.ShownScores.new.Goals as goal

pub returns-clause-kept : goal.returns-clause-kept
returns-clause-kept c = empty_kept _ (c.in_ok-marks.ensures.items_if_clones_equal (λ y e. e)) c.new.ensures.items
