use Rattle.streams.proofs.Appending.{appends_both, appends_last}
use Rattle.screen.proofs.sides.print_side.Goals as goal

pub returns-clause-text : goal.returns-clause-text
returns-clause-text g c =
    let two = appends_both _ _ _ _ _ c.in_ok-write.ensures.bytes c.in_ok-print_all.ensures.text in
    rw (← c.name-name.ensures) (appends_last c.writeln.result _ _ _ _ _ two c.writeln.ensures.bytes)
