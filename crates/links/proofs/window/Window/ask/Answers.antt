use Rattle.links.proofs.WindowLemmas.{asked_in, hands}
use Rattle.links.proofs.window.Window.ask.Goals as goal

pub invariant_of-self : goal.invariant_of-self
invariant_of-self g c = hands _ c.send.ensures (asked_in _ c.self.view_is c.requires) c.self.invariant
