use Rattle.std.proofs.Common.{◌∙◌, refl}
use Rattle.agree_core.specs.declared.seat.Settled.TheVariants.{Pending}
use Rattle.streams.proofs.Appending.{appends_both}
use Rattle.schedule_replay.specs.declared.seen.Seen.TheVariants.{Penned}
use Rattle.replay_command.specs.Replay.{event_line}
use Rattle.replay_command.proofs.ReplayTexts.{numbered_next}
use Rattle.replay_command.proofs.replay.print.print_events.Goals as goal

pub loop-before-preserved : goal.loop-before-preserved
loop-before-preserved g c =
    let more = numbered_next event_line 1 c.args.outcomes.now c.loop-before.before (Penned Pending) _ c.loop-before-test.true refl in
    record {
      written = rw more (appends_both _ _ _ _ _ c.loop-before.invariant.written c.in_ok-print_event.ensures.text);
      sound = c.in_ok-print_event.ensures.failed.1 ∙ c.loop-before.invariant.sound;
    }
