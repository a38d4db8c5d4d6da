use Rattle.page.proofs.book_part.put_correction.Goals as goal

pub returns-in-Fix : goal.returns-in-Fix
returns-in-Fix g c = rw c.in-Fix.is (rw c.in-Fix.is at c.put_row.ensures)

pub returns-in-Late : goal.returns-in-Late
returns-in-Late g c = rw c.in-Late.is (rw c.in-Late.is at c.put_row-in-Late.ensures)
