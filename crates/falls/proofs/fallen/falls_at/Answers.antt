use Rattle.falls.proofs.FallingLemmas.{falling_book}
use Rattle.falls.proofs.fallen.falls_at.Goals as goal

pub returns : goal.returns
returns g c = rw (← falling_book _ _ c.clean_items.ensures.value) c.falls_behind.ensures
