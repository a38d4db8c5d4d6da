use Rattle.std.proofs.Common.{arith}
use Rattle.std.proofs.lemmas.Bool.Decides.{nat_tests}
use Rattle.live.proofs.laws.nothing_is_asked_in_vain.Goals as goal

pub returns : goal.returns
returns c at = record {
  places = (λ e. grind (arith, nat_tests), λ h. grind (arith, nat_tests));
  rounds = (λ e. grind (arith, nat_tests), λ h. grind (arith, nat_tests));
  room = (λ e. grind (arith, nat_tests), λ h. grind (arith, nat_tests));
}
