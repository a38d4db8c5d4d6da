use Rattle.streams.proofs.Appending.{appends_last}
use Rattle.screen.proofs.sides.print_sides.Goals as goal

pub returns-clause-text : goal.returns-clause-text
returns-clause-text g c =
    appends_last c.print_side-2.result _ _ _ _ _ c.in_ok-print_side.ensures.text c.print_side-2.ensures.text
