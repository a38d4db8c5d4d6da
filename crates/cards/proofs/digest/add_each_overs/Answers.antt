use Rattle.std.proofs.Common.{arith, refl, subst}
use Rattle.sha2.specs.Hashers.{Holds256}
use Rattle.cards.specs.Digest.{each_overs}
use Rattle.cards.proofs.AddedParts.{added, all_added}
use Rattle.cards.proofs.digest.add_each_overs.Goals as goal

pub loop-number-init : goal.loop-number-init
loop-number-init c = λ m h. (m, (h, refl))

pub loop-number-preserved : goal.loop-number-preserved
unfolding each_overs
loop-number-preserved c = λ m h.
    let (k, (held, rest)) = c.loop-number.invariant m h in
    (_, (c.add_overs.ensures k held, added each_overs c.args.overs.now c.loop-number.number-index k _ rest (λ x ys. refl) _ c.loop-number-test.true))

pub returns : goal.returns
unfolding each_overs
returns c = λ m h.
    let (k, (held, rest)) = c.loop-number.invariant m h in
    subst (λ l. Holds256 c.loop-number.hasher l) (all_added each_overs c.args.overs.now c.loop-number.number-index k _ rest refl (omega (arith, c.loop-number-test.false))) held
