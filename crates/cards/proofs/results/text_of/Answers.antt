use Rattle.std.proofs.Common.{append_assoc}
use Rattle.cards.proofs.results.text_of.Goals as goal

pub returns-in-Counted : goal.returns-in-Counted
returns-in-Counted c = rw c.in-Counted.is (simp append_assoc (simp append_assoc at c.counted_text.ensures))
