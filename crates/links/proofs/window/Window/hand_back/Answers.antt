use Rattle.links.proofs.WindowLemmas.{handed_in, hands}
use Rattle.links.proofs.window.Window.hand_back.Goals as goal

pub invariant_of-self : goal.invariant_of-self
invariant_of-self g c = hands _ c.reply.ensures (handed_in _ c.self.view_is c.requires) c.self.invariant

pub invariant_of-self-in-MadeUp : goal.invariant_of-self-in-MadeUp
invariant_of-self-in-MadeUp g c = hands _ c.send_to.ensures (handed_in _ c.self.view_is c.requires) c.self.invariant
