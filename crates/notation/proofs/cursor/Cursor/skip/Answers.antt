use Rattle.std.proofs.Common.{◌≡◌, ◌∙◌, length, [], sym, ap, arith}
use Rattle.std.proofs.lemmas.Bool.{eqb-true, eqb-false}
use Rattle.notation.specs.Written.{tokens}
use Rattle.notation.specs.inner.Cursor.{tokens_left}
use Rattle.notation.proofs.Skips.{skips_last, skips_next, stays_empty, stays_longer, stays_other}
use Rattle.notation.proofs.cursor.Cursor.skip.Goals as goal

pub returns-in_default : goal.returns-in_default
returns-in_default c =
    let self : [] ≡ c.args.self.now = ap tokens_left (sym c.in_default.is) ∙ c.self.view_is in
    rw (← self) (stays_empty c.args.word.now)

pub returns-in_default-strip_prefix : goal.returns-in_default-strip_prefix
returns-in_default-strip_prefix c =
    let self : tokens c.in-Some.left.now ≡ c.args.self.now = ap tokens_left (sym c.in-Some.is) ∙ c.self.view_is in
    rw (← self) (stays_other c.args.word.now c.in-Some.left.now c.in_default-strip_prefix.ensures.cases)

pub returns-then-is_empty : goal.returns-then-is_empty
returns-then-is_empty c =
    let self : tokens c.in-Some.left.now ≡ c.args.self.now = ap tokens_left (sym c.in-Some.is) ∙ c.self.view_is in
    let p = c.in-Some-strip_prefix.ensures.cases in
    rw (← self) (skips_last c.args.word.now c.in-Some.left.now c.requires p.0 (ap length (sym p.1) ∙ eqb-true _ 0 (sym c.if-is_empty.ensures)))

pub returns-then-behind-ne32 : goal.returns-then-behind-ne32
returns-then-behind-ne32 c =
    let self : tokens c.in-Some.left.now ≡ c.args.self.now = ap tokens_left (sym c.in-Some.is) ∙ c.self.view_is in
    let p = c.in-Some-strip_prefix.ensures.cases in
    let ne = eqb-false _ _ (sym c.if-is_empty.ensures) in
    rw (← self) (stays_longer c.args.word.now c.in-Some.left.now (omega (arith, ne, ap length p.1)) (rw (← p.1) c.if-behind-ne32.true))

pub returns : goal.returns
returns c =
    let self : tokens c.in-Some.left.now ≡ c.args.self.now = ap tokens_left (sym c.in-Some.is) ∙ c.self.view_is in
    let p = c.in-Some-strip_prefix.ensures.cases in
    let ne = eqb-false _ _ (sym c.if-is_empty.ensures) in
    rw (← self, c.split_at.ensures.back, p.1) (skips_next c.args.word.now c.in-Some.left.now c.requires p.0 (omega (arith, ne, ap length p.1)) (rw (← p.1) c.if-behind-ne32.false))
