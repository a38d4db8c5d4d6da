use Rattle.std.proofs.Common.{Some, refl, sym, ap, arith}
use Rattle.notation.proofs.Numbers.{one_digit, above, below, no_text, whole}
use Rattle.notation.proofs.cursor.number_of.Goals as goal
use Rattle.notation.proofs.cursor.number_of.Goals.{then-low-number+then-number-high, else-low-number, else-low-number-via-then-low-number+else-number-high, else-low-number-via-else-low-number}

pub returns-then-token-le57-clause-value : goal.returns-then-token-le57-clause-value
returns-then-token-le57-clause-value c =
    let d = one_digit c.args.token.now c.from-number.result c.if-token-eq1.true (omega (arith, c.from-number.ensures, c.if-token-ge48.true)) (omega (arith, c.from-number.ensures, c.if-token-le57.true)) in
    elim c.if-low-number.branch [
      | then-low-number+then-number-high w ↦ rw (w.result-is, whole c.args.low c.args.high c.args.token.now (omega (arith, d.0, w.if-low-number.true)) (omega (arith, d.0, w.if-number-high.true)) d.1) (ap Some (sym d.0))
      | else-low-number w ↦ elim w.else-low-number.branch [
        | else-low-number-via-then-low-number+else-number-high v ↦ rw (w.result-is, above c.args.low c.args.high c.args.token.now (omega (arith, d.0, v.if-number-high.false))) refl
        | else-low-number-via-else-low-number v ↦ rw (w.result-is, below c.args.low c.args.high c.args.token.now (omega (arith, d.0, v.if-low-number.false))) refl
      ]
    ]

pub returns-in-Err-clause-value : goal.returns-in-Err-clause-value
returns-in-Err-clause-value c = rw (no_text c.args.low c.args.high c.args.token.now (omega arith) c.in-Err.ensures.cases.0) refl
