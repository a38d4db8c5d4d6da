use Rattle.std.proofs.Common.{◌≡◌, ◌∙◌, ◌⊎◌, inl, inr, ℕ, List, length, take, refl, sym, subst, arith}
use Rattle.std.specs.Prelude.{slice_index_or}
use Rattle.std.proofs.lemmas.List.{length-take-le, take_all, take_more}
use Rattle.seal.specs.Rings.{IsFormBy}
use Rattle.seal.specs.Sealed.{IsSealed}
use Rattle.seal.proofs.SealedForms.{front}
use Rattle.seal.proofs.OpeningLemmas.{before_or_last, front_of}
use Rattle.seal.proofs.ring.opened_by.Goals as goal

pub returns-then-opened-clause-each : goal.returns-then-opened-clause-each
returns-then-opened-clause-each c = λ message long is. (
  refl,
  sym (front c.seal-item.result (take 48 c.opened.new.buffer) c.args.bytes.now (length-take-le 48 c.opened.new.buffer (omega arith)) (c.opened.ensures.only c.if-opened.true))
      ∙ front_of c.args.seals.now message c.args.bytes.now long is,
)

pub loop-seal-preserved : goal.loop-seal-preserved
loop-seal-preserved c = (
  c.opened.ensures.none c.if-opened.false ∙ c.loop-seal.invariant.0,
  λ message long is.
      let more = take_more c.args.seals.now c.loop-seal.seal-index c.seal-item.result (omega arith) in
      by message long (before_or_last _ _ message c.args.bytes.now (subst (λ (l : List (List ℕ)). IsFormBy l message c.args.bytes.now) more is)),
)
  where
    by : (message : List ℕ) → length message ≡ 48
        → IsFormBy (take c.loop-seal.seal-index c.args.seals.now) message c.args.bytes.now
        ⊎ IsSealed (slice_index_or c.args.seals.now c.loop-seal.seal-index c.seal-item.result) message c.args.bytes.now → ⊥
    by message long (inl is) = c.loop-seal.invariant.1 message long is
    by message long (inr e) =
        let opened = (c.opened.ensures.each message long (subst (λ (l : List ℕ). IsSealed l message c.args.bytes.now) (sym c.seal-item.is) e)).0 in
        absurd (cc)

pub returns-clause-each : goal.returns-clause-each
returns-clause-each c = λ message long is.
    let whole = take_all c.loop-seal.seal-index c.args.seals.now (omega arith) in
    absurd (c.loop-seal.invariant.1 message long (subst (λ (l : List (List ℕ)). IsFormBy l message c.args.bytes.now) (sym whole) is))
