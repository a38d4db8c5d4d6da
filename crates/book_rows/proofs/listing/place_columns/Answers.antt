use Rattle.std.proofs.Common.{sym, arith}
use Rattle.book_rows.proofs.Columns.{one_digit, two_digits, three_digits, four_digits}
use Rattle.book_rows.proofs.listing.place_columns.Goals as goal

pub returns-then-place-lt10 : goal.returns-then-place-lt10
returns-then-place-lt10 c = sym (one_digit c.args.place c.if-place-lt10.true)

pub returns-then-place-lt100 : goal.returns-then-place-lt100
returns-then-place-lt100 c = sym (two_digits c.args.place c.if-place-lt10.false c.if-place-lt100.true)

pub returns-then-place-lt1000 : goal.returns-then-place-lt1000
returns-then-place-lt1000 c = sym (three_digits c.args.place c.if-place-lt100.false c.if-place-lt1000.true)

pub returns-else-place-lt1000 : goal.returns-else-place-lt1000
returns-else-place-lt1000 c = sym (four_digits c.args.place c.if-place-lt1000.false (omega (arith, c.ranges.place.fits)))
