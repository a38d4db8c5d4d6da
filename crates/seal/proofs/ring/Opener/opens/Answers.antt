use Rattle.std.proofs.Common.{arith}
use Rattle.std.proofs.lemmas.List.{length-take-le}
use Rattle.seal.proofs.OpeningLemmas.{tells_open}
use Rattle.seal.proofs.ring.Opener.opens.Goals as goal

pub returns : goal.returns
returns c =
    let e = c.opened.ensures in
    tells_open _ c.args.self.now.ring _ c.args.bytes.now (length-take-le 48 c.opened.new.buffer (omega arith)) e.only (λ n h is. (e.each n h is).0)
