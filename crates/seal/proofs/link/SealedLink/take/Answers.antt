use Rattle.std.proofs.Common.{◌∷◌, List, ap, arith}
use Rattle.std.proofs.lemmas.List.{length-take-le}
use Rattle.links.specs.Passed.{Passed}
use Rattle.seal.specs.Opening.{opened}
use Rattle.seal.proofs.OpeningLemmas.{came_more, came_none}
use Rattle.seal.proofs.link.SealedLink.take.Goals as goal

pub returns-then-opened-clause-taken : goal.returns-then-opened-clause-taken
returns-then-opened-clause-taken g c = (
  omega arith,
  ap (λ (l : List Passed). opened c.args.self.now.ring ∷ l)
      (came_more c.args.self.now.ring _ _ _ _ (length-take-le 48 c.opened.new.buffer (omega arith)) (c.opened.ensures.only c.if-opened.true) c.in-Datagram.ensures.1),
)

pub returns-then-opened-clause-kept : goal.returns-then-opened-clause-kept
returns-then-opened-clause-kept g c = (_, c.in-Datagram.ensures.1, c.keep.ensures)

pub returns-else-opened-clause-taken : goal.returns-else-opened-clause-taken
returns-else-opened-clause-taken g c =
    ap (λ (l : List Passed). opened c.args.self.now.ring ∷ l)
    (came_none c.args.self.now.ring _ _ _ (λ m h e. let is = (c.opened.ensures.each m h e).0 in absurd (cc)) c.in-Datagram.ensures.1)
