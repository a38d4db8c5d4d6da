use Rattle.std.proofs.Common.{arith}
use Rattle.board_command.proofs.files.put.Goals as goal

pub returns-in-Some-made : goal.returns-in-Some-made
returns-in-Some-made g c = λ text made.
    let is_text = rw c.in-Some-made.is at made.1 in
    rw c.in-Some.is (grind (arith, c.put_text-written.ensures text is_text, c.if-is_due.ensures))
