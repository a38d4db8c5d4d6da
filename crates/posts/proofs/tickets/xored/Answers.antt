use Rattle.std.proofs.Common.{◌≡◌, ◌∙◌, ◌++◌, ◌∷◌, [], List, ℕ, arith, refl, sym, ap, take, slice_index, bit_xor}
use Rattle.std.proofs.lemmas.List.{length-set, take_all, take_more, take_more_set}
use Rattle.posts.specs.Tickets.{xored}
use Rattle.posts.proofs.TicketLemmas.{get_or-xored, length-xored}
use Rattle.posts.proofs.tickets.xored.Goals as goal

pub loop-i-init : goal.loop-i-init
loop-i-init c = (refl, refl)

pub loop-i-preserved : goal.loop-i-preserved
loop-i-preserved c =
    let secret = c.args.secret.now in
    let pad = c.args.pad.now in
    let i = c.loop-i.i in
    let byte = bit_xor (slice_index secret i) (slice_index pad i) in
    let long = length-xored secret pad (omega arith) in (
      length-set _ _ _ ∙ c.loop-i.invariant.0,
      take_more_set c.loop-i.turned i byte (omega arith)
          ∙ ap (λ (l : List ℕ). l ++ byte ∷ []) c.loop-i.invariant.1
          ∙ ap (λ (b : ℕ). take i (xored secret pad) ++ b ∷ []) (sym (get_or-xored secret pad i (omega arith) (omega arith)))
          ∙ sym (take_more (xored secret pad) i 0 (omega (arith, long))),
    )

pub returns : goal.returns
returns c =
    let long = length-xored c.args.secret.now c.args.pad.now (omega arith) in
    let e : c.loop-i.i ≡ 16 = omega arith in
    sym (take_all 16 c.loop-i.turned (omega arith)) ∙ rw e at c.loop-i.invariant.1
    ∙ take_all 16 (xored c.args.secret.now c.args.pad.now) (omega (arith, long))
