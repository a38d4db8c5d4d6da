use Rattle.std.proofs.Common.{refl, rules}
use Rattle.commands.specs.Lines.{lines_text}
use Rattle.commands.proofs.LinesAgain.{again}
use Rattle.commands.proofs.product.print_product.Goals as goal

pub returns-in_ok-print_lines-in-Lines-clause-written : goal.returns-in_ok-print_lines-in-Lines-clause-written
returns-in_ok-print_lines-in-Lines-clause-written g c =
    let book = c.args.book.now.entries in
    let lines = c.in_ok-print_lines-in-Lines.ensures in
    rw c.in-Lines.is (record { text = lines_text book; made = (refl, again c.args.sheet.now.innings book lines.again c.requires.legal); written = lines.text; is_told = search rules })
