use Rattle.std.proofs.Common.{◌∷◌, List, ap, arith}
use Rattle.links.specs.Passed.{Passed}
use Rattle.seal.specs.Opening.{opened}
use Rattle.seal.proofs.OpeningLemmas.{sent_more}
use Rattle.seal.proofs.link.SealedPeerLink.send_to.Goals as goal

pub returns-clause-log : goal.returns-clause-log
returns-clause-log g c =
    ap (λ (l : List Passed). opened c.args.self.now.ring ∷ l)
    (sent_more _ c.args.self.now.ring c.args.self.now.receipts _ _ c.args.bytes.now _ (omega arith) c.outgoing.ensures c.carry_to.ensures)
