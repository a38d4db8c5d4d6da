use Rattle.std.proofs.Common.{◌∙◌, sym}
use Rattle.books.proofs.EnteredSoFar.{one_more, refused}
use Rattle.books.proofs.both.book_of_entries.Goals as goal

pub returns-then-is_err-clause-why : goal.returns-then-is_err-clause-why
returns-then-is_err-clause-why c =
    refused c.loop-i.invariant c.loop-i-test.true c.index-entries-i.is c.enter.new.self c.enter.result c.len.result
    (sym c.is_err.ensures.value ∙ c.if-is_err.true) c.enter.ensures c.len.ensures.entries

pub loop-i-preserved : goal.loop-i-preserved
loop-i-preserved c =
    one_more c.loop-i.invariant c.loop-i-test.true c.index-entries-i.is c.enter.new.self c.enter.result
    (sym c.is_err.ensures.value ∙ c.if-is_err.false) c.enter.ensures
