use Rattle.std.proofs.Common.{arith, refl, subst}
use Rattle.sha2.specs.Hashers.{Holds256}
use Rattle.cards.specs.Digest.{each_powerplay}
use Rattle.cards.proofs.AddedParts.{added, all_added}
use Rattle.cards.proofs.digest.add_powerplays.Goals as goal

pub loop-powerplay-init : goal.loop-powerplay-init
loop-powerplay-init c = λ m h. (m, (h, refl))

pub loop-powerplay-preserved : goal.loop-powerplay-preserved
unfolding each_powerplay
loop-powerplay-preserved c = λ m h.
    let (k, (held, rest)) = c.loop-powerplay.invariant m h in
    (_, (c.add_powerplay.ensures k held, added each_powerplay c.args.powerplays.now c.loop-powerplay.powerplay-index k _ rest (λ x ys. refl) _ c.loop-powerplay-test.true))

pub returns : goal.returns
unfolding each_powerplay
returns c = λ m h.
    let (k, (held, rest)) = c.loop-powerplay.invariant m h in
    subst (λ l. Holds256 c.loop-powerplay.hasher l) (all_added each_powerplay c.args.powerplays.now c.loop-powerplay.powerplay-index k _ rest refl (omega (arith, c.loop-powerplay-test.false))) held
