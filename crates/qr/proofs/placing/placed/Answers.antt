use Rattle.std.proofs.Common.{◌≡◌, ◌+◌, ◌<◌, ℕ, List, Bool, true, false, arith, sym, ap, ◌∙◌, length, map}
use Rattle.std.proofs.lemmas.List.{length-set, length_push}
use Rattle.qr.specs.Modules.{data_places, is_data, place, unmasked}
use Rattle.qr.proofs.PlacingLemmas.{bit_more, others_kept, placed_at_last, places_more, places_same}
use Rattle.qr.proofs.placing.placed.Goals as goal
use Rattle.qr.proofs.placing.placed.Goals.{then-is_data, else-is_data}

pub loop-step-preserved : goal.loop-step-preserved
loop-step-preserved c =
    let codewords : List ℕ = c.args.codewords.now in
    let modules : List Bool = c.loop-step.modules in
    let bit : ℕ = c.loop-step.bit in
    let s : ℕ = c.loop-step.step in
    let so_far = c.loop-step.invariant in
    let at_step = c.place-at.ensures.place in
    elim c.if-is_data.branch [
      | then-is_data w ↦
          let one : is_data (place s) ≡ true = rw at_step at (sym c.is_data.ensures ∙ w.if-is_data.true) in
          let inside : place s < length modules = omega (arith, c.place-at.ensures.within, at_step, so_far.len) in
          rw (w.bit-is, w.modules-is, w.masked.ensures, w.is_set.ensures, at_step) record {
            few = omega (arith, so_far.few);
            len = length-set _ _ _ ∙ so_far.len;
            count = ap length (places_more s one) ∙ length_push (data_places s) (place s) ∙ ap (λ (n : ℕ). n + 1) so_far.count;
            bits = bit_more codewords modules bit s c.loop-step-test.true inside one so_far.bits;
            pattern = λ at h other. others_kept modules s at _ one other ∙ so_far.pattern at h other;
          }
      | else-is_data w ↦
          let none : is_data (place s) ≡ false = rw at_step at (sym c.is_data.ensures ∙ w.if-is_data.false) in
          rw (w.bit-is, w.modules-is) record {
            few = omega (arith, so_far.few);
            len = so_far.len;
            count = ap length (places_same s none) ∙ so_far.count;
            bits = ap (map (unmasked modules)) (places_same s none) ∙ so_far.bits;
            pattern = so_far.pattern;
          }
    ]

pub returns : goal.returns
returns c =
    let m = c.loop-step.invariant in
    placed_at_last c.args.codewords.now c.loop-step.modules c.loop-step.bit c.loop-step.step m.len (omega arith) m.count m.bits m.pattern
