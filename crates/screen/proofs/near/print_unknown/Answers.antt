use Rattle.streams.proofs.Appending.{appends_both, appends_last}
use Rattle.screen.proofs.near.print_unknown.Goals as goal

pub returns-clause-text : goal.returns-clause-text
returns-clause-text g c =
    appends_last c.writeln.result _ _ _ _ _
    (appends_both _ _ _ _ _ c.in_ok-write.ensures.bytes c.in_ok-print_all_near.ensures.text) c.writeln.ensures.bytes
