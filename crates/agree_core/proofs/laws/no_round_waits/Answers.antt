use Rattle.agree_core.proofs.Waiting.{casts_wait, hears_wait, listens_wait}
use Rattle.agree_core.proofs.laws.no_round_waits.Goals as goal

pub returns : goal.returns
returns c = record { casts = casts_wait; hears = hears_wait; listens = listens_wait }
