use Rattle.std.proofs.lemmas.Grind.{common_steps}
use Rattle.std.proofs.Common.{arith, refl}
use Rattle.seal.proofs.SameBytes.{same_more}
use Rattle.posts.proofs.tags.is_same.Goals as goal

pub loop-i-init : goal.loop-i-init
loop-i-init c = (λ e. refl, λ e. refl)

pub loop-i-preserved : goal.loop-i-preserved
loop-i-preserved c = grind (arith, common_steps, same_more)
