use Rattle.std.proofs.Common.{◌≡◌, ℕ, List, arith, length, subst, sym, take}
use Rattle.std.specs.Prelude.{slice_index}
use Rattle.std.proofs.lemmas.List.{length-take-le}
use Rattle.seal.specs.Rings as rings
use Rattle.seal.proofs.OpeningLemmas.{sender_before}
use Rattle.seal.proofs.SealedForms.{sized}
use Rattle.seal.proofs.ring.Ring.opened.Goals as goal

pub returns-then-not-has_size-clause-each : goal.returns-then-not-has_size-clause-each
returns-then-not-has_size-clause-each c = λ message long is.
    absurd (cc (sized is.1.0 message c.args.bytes.now long is.1.2, c.if-not-has_size.ensures))

pub returns-clause-only : goal.returns-clause-only
returns-clause-only c = λ opened.
    let m = take 48 c.opened_by.new.buffer in
    let long : length m ≡ 48 = length-take-le 48 c.opened_by.new.buffer (omega arith) in
    let is : rings.IsFormBy (rings.seals_of c.args.self.now (slice_index c.args.bytes.now 12)) m c.args.bytes.now =
    subst (λ (l : List (List ℕ)). rings.IsFormBy l m c.args.bytes.now) c.seals_of.ensures (c.opened_by.ensures.only opened) in
    subst (λ (n : ℕ). rings.IsFormBy (rings.seals_of c.args.self.now n) m c.args.bytes.now) (sender_before _ m c.args.bytes.now long is) is

pub returns-clause-each : goal.returns-clause-each
returns-clause-each c = λ message long is.
    let by_bytes = subst (λ (n : ℕ). rings.IsFormBy (rings.seals_of c.args.self.now n) message c.args.bytes.now) (sym (sender_before _ message c.args.bytes.now long is)) is in
    c.opened_by.ensures.each message long (subst (λ (l : List (List ℕ)). rings.IsFormBy l message c.args.bytes.now) (sym c.seals_of.ensures) by_bytes)
