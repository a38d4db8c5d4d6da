use Rattle.std.proofs.lemmas.Grind.{common_steps}
use Rattle.std.proofs.Common.{◌≡◌, ◌∙◌, Some, arith}
use Rattle.std.proofs.lemmas.List.{append_assoc}
use Rattle.posts.proofs.PlaceTexts.{cut_place, joined}
use Rattle.posts.proofs.stamp.place_in.Goals as goal

pub returns-in_err-place-clause-each : goal.returns-in_err-place-clause-each
returns-in_err-place-clause-each c = λ place round low lower is.
    let cut = cut_place (record { place = place; round = round }) c.args.text.now low is in
    grind (arith, cut.there)

pub returns-in_err-small_in-clause-each : goal.returns-in_err-small_in-clause-each
returns-in_err-small_in-clause-each c = λ place round low lower is.
    let cut = cut_place (record { place = place; round = round }) c.args.text.now low is in
    let known : c.small_in.result ≡ Some place = c.small_in.ensures.each place low (c.in_ok-place.ensures.0 ∙ cut.front_is) in
    grind (arith, known)

pub returns-in_err-small_in-2-clause-each : goal.returns-in_err-small_in-2-clause-each
returns-in_err-small_in-2-clause-each c = λ place round low lower is.
    let cut = cut_place (record { place = place; round = round }) c.args.text.now low is in
    let known : c.small_in-2.result ≡ Some round = c.small_in-2.ensures.each round lower (c.in_ok-place.ensures.1 ∙ cut.back_is) in
    grind (arith, known)

pub returns-clause-only : goal.returns-clause-only
returns-clause-only c = grind (arith, common_steps, joined, append_assoc)

pub returns-clause-each : goal.returns-clause-each
returns-clause-each c = λ place round low lower is.
    let cut = cut_place (record { place = place; round = round }) c.args.text.now low is in
    let one = c.small_in.ensures.each place low (c.in_ok-place.ensures.0 ∙ cut.front_is) in
    let two = c.small_in-2.ensures.each round lower (c.in_ok-place.ensures.1 ∙ cut.back_is) in
    grind (arith, one, two)
