use Rattle.std.proofs.Common.{◌≡◌, ◌+◌, ◌∷◌, arith, drop, get_or, refl, true, false}
use Rattle.std.proofs.lemmas.Grind.{common_steps}
use Rattle.std.proofs.lemmas.List.{drop_more}
use Rattle.ball_laws.specs.Over.{numbers}
use Rattle.shorthand.proofs.Counts.{with_all-none, number_in_range}
use Rattle.shorthand.proofs.names.fitting.Goals as goal
use Rattle.shorthand.proofs.names.fitting.Goals.{in-Some+then-suits, in-Some+else-suits, in_default}

pub loop-number-init : goal.loop-number-init
loop-number-init c = (refl, with_all-none _)

pub loop-number-preserved : goal.loop-number-preserved
loop-number-preserved c =
    let k = c.loop-number.number-index in
    let here : drop k numbers ≡ get_or numbers k 0 ∷ drop (k + 1) numbers = drop_more numbers k 0 c.loop-number-test.true in
    elim c.match-new.branch [
      | in-Some+then-suits w ↦ (refl, grind (arith, common_steps, here))
      | in-Some+else-suits w ↦ (refl, grind (arith, common_steps, here))
      | in_default w ↦
          let never : false ≡ true = w.in_default.ensures.valid.1 (number_in_range k c.loop-number-test.true) in
          absurd (cc)
    ]
