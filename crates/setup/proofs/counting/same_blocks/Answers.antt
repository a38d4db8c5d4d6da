use Rattle.std.proofs.Common.{◌≡◌, true, false, sym, ◌∙◌, arith}
use Rattle.setup.proofs.BlockLemmas.{alike_more, last_alike}
use Rattle.setup.proofs.counting.same_blocks.Goals as goal

pub returns-then-not-are_same-clause-differ : goal.returns-then-not-are_same-clause-differ
returns-then-not-are_same-clause-differ c less same =
    let other : c.are_same.result ≡ false = grind (arith, c.if-not-are_same.true) in
    let last = last_alike c.loop-count.count c.args.first.now c.args.second.now same in
    c.are_same.ensures.differ other (c.block.ensures ∙ (last ∙ sym c.block-in-loop-count.ensures))

pub loop-count-preserved : goal.loop-count-preserved
loop-count-preserved c =
    let alike : c.are_same.result ≡ true = grind (arith, c.if-not-are_same.false) in
    let next = sym c.block.ensures ∙ (c.are_same.ensures.same (grind (arith, alike)) ∙ c.block-in-loop-count.ensures) in
    alike_more c.loop-count.count c.args.first.now c.args.second.now c.loop-count.invariant next
