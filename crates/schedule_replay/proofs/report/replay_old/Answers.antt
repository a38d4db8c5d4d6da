use Rattle.schedule_replay.proofs.ReplayLemmas.{ends_of_match}
use Rattle.schedule_replay.proofs.report.replay_old.Goals as goal

pub returns-in-Ok-clause-ends : goal.returns-in-Ok-clause-ends
returns-in-Ok-clause-ends c = ends_of_match c.args.events.now c.replay_in.result c.in-Ok.ensures.begins c.replay_in.ensures.ends
