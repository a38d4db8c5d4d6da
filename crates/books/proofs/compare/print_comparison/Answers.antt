use Rattle.std.proofs.Common.{arith}
use Rattle.streams.proofs.Appending.{appends_both, appends_kept}
use Rattle.books.proofs.compare.print_comparison.Goals as goal

pub returns-clause-text : goal.returns-clause-text
returns-clause-text g c =
    let both = appends_both _ _ _ _ _ c.in_ok-print_differences.ensures.text c.in_ok-print_sum.ensures.text in
    let all = appends_both _ _ _ _ _ both c.in_ok-print_tear.ensures.text in
    let kept = appends_kept _ _ _ _ all c.flush.ensures.bytes in
    rw (← c.as_slice-differences.ensures.value) (grind (arith, kept))
