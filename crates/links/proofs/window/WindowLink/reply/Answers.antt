use Rattle.std.proofs.Common.{inl}
use Rattle.links.proofs.WindowLemmas.{is_handed, now_sent}
use Rattle.links.proofs.window.WindowLink.reply.Goals as goal

pub invariant_of-self : goal.invariant_of-self
invariant_of-self g c = is_handed _ _ c.sent.ensures c.self.invariant

pub hand_back-requires : goal.hand_back-requires
hand_back-requires g c = inl (now_sent _ _ _ c.sent.ensures)
