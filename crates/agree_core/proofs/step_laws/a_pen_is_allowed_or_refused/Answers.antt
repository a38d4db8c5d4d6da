use Rattle.std.proofs.Common.{arith}
use Rattle.agree_core.proofs.PenCauses.{may_or_refused, not_both, one_cause}
use Rattle.agree_core.proofs.step_laws.a_pen_is_allowed_or_refused.Goals as goal

pub returns : goal.returns
returns g c = search (arith, may_or_refused, not_both, one_cause)
