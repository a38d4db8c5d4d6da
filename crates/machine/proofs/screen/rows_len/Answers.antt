use Rattle.std.proofs.Common.{◌≡◌, ◌-◌, ◌+◌, get_or, take, ap, ◌∙◌, arith, rules}
use Rattle.machine.specs.Rows.{ends_row}
use Rattle.machine.proofs.ScreenLemmas.{ends_row-take}
use Rattle.machine.proofs.screen.rows_len.Goals as goal

pub returns-then-bytes-len-eq10-clause-rows : goal.returns-then-bytes-len-eq10-clause-rows
returns-then-bytes-len-eq10-clause-rows c =
    let len = c.loop-len.len in
    let bytes = c.args.bytes.now in
    let last : len ≡ len - 1 + 1 = omega (arith, c.loop-len-test.true) in
    let is_end : get_or bytes (len - 1) 0 ≡ 10 = search rules in
    ap (λ n. ends_row (take n bytes)) last ∙ ends_row-take bytes (len - 1) (omega (arith, c.loop-len.invariant, c.loop-len-test.true)) is_end
