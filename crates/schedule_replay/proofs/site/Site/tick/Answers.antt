use Rattle.schedule_replay.proofs.EventLemmas.{ticks}
use Rattle.schedule_replay.proofs.site.Site.tick.Goals as goal

pub returns : goal.returns
returns c = record {
  step = λ t. ticks c.args.self.now c.in-Some.desk t c.as_slice-said.result.now c.tick-out.result.items c.args.sent.now.items c.extend_from_slice.new.self.items
      c.in-Some.is c.tick-out.ensures.step c.as_slice-said.ensures.value (rw c.unwrap.ensures at c.extend_from_slice.ensures.items);
}
