use Rattle.std.proofs.Common.{arith, refl}
use Rattle.viewers.specs.Places.{is_signed, is_unsigned}
use Rattle.viewers.proofs.PlaceLemmas.{gone_at_all, gone_more, keeps_more}
use Rattle.viewers.proofs.places.Places.let_signed_go.Goals as goal

pub loop-place-init : goal.loop-place-init
loop-place-init g c = (λ k less. absurd (omega (arith, less)), λ k holds. refl)

pub loop-place-preserved : goal.loop-place-preserved
loop-place-preserved g c =
    let before = c.loop-place.invariant in
    let call = c.let_signed_go_at.ensures in (
      gone_more is_signed _ _ _ before.0 call.here call.others,
      keeps_more is_unsigned _ _ _ before.1 call.unsigned,
    )

pub returns-clause-gone : goal.returns-clause-gone
returns-clause-gone g c = gone_at_all is_signed is_unsigned _ _ _ (omega arith) refl refl c.loop-place.invariant.1 c.loop-place.invariant.0

pub returns-clause-others : goal.returns-clause-others
returns-clause-others g c = c.loop-place.invariant.1
