use Rattle.std.proofs.Common.{append_assoc, codes, decimal, ◌++◌}
use Rattle.replay_command.proofs.replay.print.print_refusal.Goals as goal

pub returns-clause-text : goal.returns-clause-text
returns-clause-text g c =
    let event = decimal c.args.event in
    let words = codes " world refused " in
    let why = decimal c.args.why in
    rw (append_assoc (event ++ words) why (codes "\n"), append_assoc event words (why ++ codes "\n")) c.writeln.ensures.bytes
