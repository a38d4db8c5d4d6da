use Rattle.std.proofs.Common.{◌∙◌}
use Rattle.limits.proofs.WalkLemmas.{free_book}
use Rattle.limits.proofs.freedom.is_free_hit.Goals as goal

pub returns : goal.returns
returns g c = c.free_hit_behind.ensures ∙ free_book _ _ c.clean_items.ensures.value
