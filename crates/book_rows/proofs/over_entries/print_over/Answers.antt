use Rattle.std.proofs.Common.{sym, ◌∙◌}
use Rattle.book_rows.proofs.over_entries.print_over.Goals as goal

pub returns-else-has_over-clause-text : goal.returns-else-has_over-clause-text
returns-else-has_over-clause-text g c =
    let none = rw c.clean_items.ensures.value at (sym c.has_over.ensures ∙ c.if-has_over.false) in
    rw none c.writeln.ensures.bytes
