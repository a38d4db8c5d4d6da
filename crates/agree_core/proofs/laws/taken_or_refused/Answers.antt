use Rattle.std.proofs.Common.{[]}
use Rattle.agree_core.proofs.Taken.{not_both, refused_next, refused_once, taken_or_refused, taken_push}
use Rattle.agree_core.proofs.laws.taken_or_refused.Goals as goal

pub returns : goal.returns
returns g c = record {
  one = λ rules xs. (taken_or_refused rules [] xs, not_both rules [] xs, refused_once rules [] xs);
  taken = λ rules xs e t n. taken_push rules [] xs e t n;
  refused = λ rules xs rest e t n. refused_next rules [] xs e rest t n;
}
