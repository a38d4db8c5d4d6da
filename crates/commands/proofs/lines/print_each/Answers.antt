use Rattle.std.proofs.Common.{◌∙◌}
use Rattle.cards.proofs.Pages.{copies_next}
use Rattle.commands.proofs.LinesAgain.{all_read, one_more}
use Rattle.commands.proofs.lines.print_each.Goals as goal

pub loop-place-preserved : goal.loop-place-preserved
loop-place-preserved g c = (
  copies_next _ _ 0 c.loop-place.place _ _ _ _ c.loop-place.invariant.0 c.entry.ensures.value (c.in_ok-print_line.ensures.text c.loop-place.place),
  one_more _ _ _ c.loop-place.invariant.1 c.entry.ensures.value c.entry.ensures.in_range,
  c.in_ok-print_line.ensures.failed.1 ∙ c.loop-place.invariant.2,
)

pub returns-clause-again : goal.returns-clause-again
returns-clause-again g c = all_read _ _ _ c.loop-place-test.false c.len-place-end.ensures.entries c.len-place-end.ensures.bound c.loop-place.invariant.1
