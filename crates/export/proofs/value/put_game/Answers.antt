use Rattle.std.proofs.Common.{sym, ◌∙◌}
use Rattle.export.proofs.value.put_game.Goals as goal

pub returns-then-is_exact : goal.returns-then-is_exact
returns-then-is_exact c = rw (sym c.is_exact.ensures ∙ c.if-is_exact.true) c.put_number.ensures
