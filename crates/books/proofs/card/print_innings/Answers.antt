use Rattle.std.proofs.Common.{◌∙◌, add-one}
use Rattle.streams.proofs.Appending.{appends_both}
use Rattle.books.proofs.card.print_innings.Goals as goal

pub loop-innings-preserved : goal.loop-innings-preserved
loop-innings-preserved g c = record {
  written = λ n h s. rw (add-one) (appends_both _ _ _ _ _ (c.loop-innings.invariant.written n h s) (c.in_ok-print_both.ensures.text n h s));
  sound = c.in_ok-print_both.ensures.failed.1 ∙ c.loop-innings.invariant.sound;
}
