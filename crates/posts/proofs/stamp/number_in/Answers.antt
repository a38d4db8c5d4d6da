use Rattle.std.proofs.Common.{◌≡◌, ◌∙◌, Some, Ok, ap, sym, arith, decimal}
use Rattle.std.specs.Result.{result_ok}
use Rattle.std.proofs.lemmas.Fmt.{parse-decimal}
use Rattle.std.proofs.lemmas.Slice.Eq.{bytes_eq-Decides}
use Rattle.posts.proofs.stamp.number_in.Goals as goal

pub returns-in_err-number-clause-each : goal.returns-in_err-number-clause-each
returns-in_err-number-clause-each c = λ n below is.
    let read : c.parse.result ≡ Ok n = parse-decimal 64 n c.args.text.now c.parse.result below below is c.parse.ensures.value.0 in
    grind (arith, c.ok.ensures.value, read)

pub returns-then-eq-clause-each : goal.returns-then-eq-clause-each
returns-then-eq-clause-each c = λ n below is.
    let read : c.parse.result ≡ Ok n = parse-decimal 64 n c.args.text.now c.parse.result below below is c.parse.ensures.value.0 in
    grind (arith, c.ok.ensures.value, read)

pub returns-else-eq-clause-each : goal.returns-else-eq-clause-each
returns-else-eq-clause-each c = λ n below is.
    let read : c.parse.result ≡ Ok n = parse-decimal 64 n c.args.text.now c.parse.result below below is c.parse.ensures.value.0 in
    let known : c.ok.result ≡ Some n = c.ok.ensures.value ∙ ap result_ok read in
    let same : c.in_ok-number.number ≡ n = grind (arith, known) in
    let both : c.format.result.now ≡ c.args.text.now = c.format.ensures.text ∙ ap decimal same ∙ sym is in
    let equal = (bytes_eq-Decides c.format.result.now c.args.text.now).1 both in
    absurd (cc (equal, c.eq.ensures, c.if-eq.false))
