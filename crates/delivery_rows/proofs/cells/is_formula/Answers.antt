use Rattle.std.proofs.Common.{sym, ◌∙◌}
use Rattle.std.proofs.lemmas.List.{drop_all}
use Rattle.corrections.proofs.ListLemmas.{next}
use Rattle.delivery_rows.proofs.cells.is_formula.Goals as goal

pub returns-then-not-is_quote : goal.returns-then-not-is_quote
returns-then-not-is_quote c =
    let here = next c.args.text.now c.loop-index.index c.byte_at-byte.result c.byte_at-byte.ensures in
    c.is_sign.ensures ∙ (rw (here, sym c.if-not-is_quote.ensures) at c.loop-index.invariant)

pub loop-index-preserved : goal.loop-index-preserved
loop-index-preserved c =
    let here = next c.args.text.now c.loop-index.index c.byte_at-byte.result c.byte_at-byte.ensures in
    rw (here, sym c.if-not-is_quote.ensures) at c.loop-index.invariant

pub returns : goal.returns
returns c = rw (drop_all _ _ c.loop-index-test.false) at c.loop-index.invariant
