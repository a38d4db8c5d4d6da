use Rattle.std.proofs.Common.{arith}
use Rattle.agree_core.specs.declared.messages.DeskId.TheVariants.{A, B}
use Rattle.schedule_replay.proofs.world.World.stations.Goals as goal

pub returns : goal.returns
returns c = λ w h. grind (arith, c.lend.ensures, c.lend-2.ensures, c.as_slice.ensures.value, h.named A, h.sites A, h.named B, h.sites B)
