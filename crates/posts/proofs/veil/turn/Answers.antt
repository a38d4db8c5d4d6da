use Rattle.std.proofs.Common.{◌≡◌, ◌∙◌, ◌≤◌, ◌%◌, length, arith, sym, ap, get_or, bit_xor}
use Rattle.std.proofs.lemmas.List.{length-set, take_all}
use Rattle.posts.specs.Veils.{block, turned_from}
use Rattle.posts.proofs.VeilLemmas.{length-turned, rest_more, same_block, turned_more}
use Rattle.posts.proofs.veil.turn.Goals as goal

pub loop-i-preserved : goal.loop-i-preserved
loop-i-preserved c =
    let key = c.args.key.now in
    let seed = c.args.seed.now.items in
    let first = c.args.text.now in
    let text = c.loop-i.text in
    let i = c.loop-i.i in
    let known = c.loop-i.invariant in
    let block_is = c.block_at-pad.ensures known.3 in
    let byte = bit_xor (get_or text i 0) (get_or c.block_at-pad.result (i % 32) 0) in (
      length-set text i byte ∙ known.0,
      turned_more key seed first text c.block_at-pad.result i (omega arith) known.0 known.1 known.2 block_is,
      rest_more first text i byte known.2,
      λ more. block_is ∙ ap (block key seed) (sym (same_block i more)),
    )

pub returns : goal.returns
returns c =
    let text = c.loop-i.text in
    let i = c.loop-i.i in
    let known = c.loop-i.invariant in
    let all = turned_from c.args.key.now c.args.seed.now.items 0 c.args.text.now in
    let long : length all ≡ length c.args.text.now = length-turned c.args.key.now c.args.seed.now.items 0 c.args.text.now in
    let ended : length c.args.text.now ≤ i = omega arith in
    sym (take_all i text (omega (arith, known.0, ended))) ∙ known.1 ∙ take_all i all (omega (arith, long, ended))
