use Rattle.streams.proofs.Appending.{appends_both}
use Rattle.replay_command.proofs.ReplayTexts.{kept_last}
use Rattle.replay_command.proofs.replay.print.print_whole.Goals as goal

pub returns-clause-text : goal.returns-clause-text
returns-clause-text g c =
    let last = appends_both _ _ _ _ _ c.in_ok-print_agreed.ensures.text c.in_ok-write.ensures.bytes in
    kept_last c.flush.result _ _ _ _ (appends_both _ _ _ _ _ c.in_ok-print_events.ensures.text last) c.flush.ensures.bytes
