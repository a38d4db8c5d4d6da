use Rattle.streams.proofs.Appending.{appends_both}
use Rattle.replay_command.proofs.ReplayTexts.{kept_last}
use Rattle.replay_command.proofs.replay.print.print_refused.Goals as goal

pub returns-clause-text : goal.returns-clause-text
returns-clause-text g c =
    kept_last c.flush.result _ _ _ _ (appends_both _ _ _ _ _ c.in_ok-print_events.ensures.text c.in_ok-print_refusal.ensures.text) c.flush.ensures.bytes
