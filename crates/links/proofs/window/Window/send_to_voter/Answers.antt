use Rattle.links.proofs.WindowLemmas.{asked_in, grown_by, grown_in, hands}
use Rattle.links.proofs.window.Window.send_to_voter.Goals as goal

pub invariant_of-self : goal.invariant_of-self
invariant_of-self g c = hands _ c.send_to.ensures (asked_in _ c.self.view_is c.requires) c.self.invariant

pub invariant_of-self-in-None : goal.invariant_of-self-in-None
invariant_of-self-in-None g c = hands _ c.send.ensures (asked_in _ c.self.view_is c.requires) c.self.invariant

pub returns-in-Some-clause-grown : goal.returns-in-Some-clause-grown
returns-in-Some-clause-grown g c = grown_in c.self.view_is (grown_by _ _ c.send_to.ensures)

pub returns-in-None-clause-grown : goal.returns-in-None-clause-grown
returns-in-None-clause-grown g c = grown_in c.self.view_is (grown_by _ _ c.send.ensures)
