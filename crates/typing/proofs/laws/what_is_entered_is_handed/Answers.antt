use Rattle.std.proofs.Common.{refl}
use Rattle.typing.proofs.CourseLemmas.{handed_alike}
use Rattle.typing.proofs.laws.what_is_entered_is_handed.Goals as goal

pub returns : goal.returns
returns c = λ s events. handed_alike s s events refl refl
