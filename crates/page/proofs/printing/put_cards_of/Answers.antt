use Rattle.std.proofs.Common.{refl, ◌∙◌}
use Rattle.page.proofs.printing.put_cards_of.Goals as goal

pub returns : goal.returns
returns g c =
    let s = rw c.requires at c.score-score.ensures.score in
    rw (c.as_slice.ensures.value, c.in_ok-moments.ensures) at (c.put_cards.ensures _ _ s (c.as_slice-2.ensures.value ∙ c.in_ok-falls.ensures) refl)
