use Rattle.std.proofs.Common.{◌∙◌, ◌++◌, Option, ap, rules, sym}
use Rattle.std.specs.Prelude.{option_to_list}
use Rattle.live.specs.Paces.{ticking_of}
use Rattle.screen.specs.declared.told.Told.{Told}
use Rattle.station_texts.specs.Texts.{said_text}
use Rattle.station_texts.specs.ToldValues.{said_told}
use Rattle.live.proofs.DeskLemmas.{rests, says, says_last, tells_aside, typing_over}
use Rattle.live.proofs.TellingLemmas.{goes_further, tells_same}
use Rattle.live.proofs.desk_loop.take_line.Goals as goal

pub returns-in-Nothing-clause-goes : goal.returns-in-Nothing-clause-goes
returns-in-Nothing-clause-goes g c = λ turns. rw c.in-Nothing.ensures rests

pub returns-in-Ended-clause-goes : goal.returns-in-Ended-clause-goes
returns-in-Ended-clause-goes g c = λ turns.
    let pace = c.args.between.now.pace in
    typing_over {ticking = ticking_of pace} pace.in_time c.in-Ended.ensures

pub returns-in-Aside-clause-goes : goal.returns-in-Aside-clause-goes
returns-in-Aside-clause-goes g c = λ turns.
    let pace = c.args.between.now.pace in
    let told = c.tell_aside.ensures in
    tells_aside {ticking = ticking_of pace} c.in-Aside.aside pace.in_time c.in-Aside.ensures told.course told.text told.told

pub returns-in-Err-clause-goes : goal.returns-in-Err-clause-goes
returns-in-Err-clause-goes g c = λ turns.
    let pace = c.args.between.now.pace in
    let said = c.pen-said.ensures in
    says_last {ticking = ticking_of pace} c.pen-said.result c.in-Err.end pace.in_time said.may said.calls c.in-Line.ensures.1
    c.after_said-between.ensures (sym c.end_of.ensures ∙ c.in-Err.is)

pub returns-clause-goes : goal.returns-clause-goes
returns-clause-goes g c =
    let pace = c.args.between.now.pace in
    let said = c.pen-said.result in
    let calls = c.pen-said.ensures.calls in
    let innings = ap g.B.BookOf.innings_a_side c.book.ensures ∙ calls.same.innings_a_side in
    let further = sym c.end_of.ensures ∙ c.in_default.is in
    λ turns. says {ticking = ticking_of pace} said pace.in_time c.pen-said.ensures.may calls c.in-Line.ensures.1 c.after_said-between.ensures
    (goes_further c.print_said.result c.told.result c.told.ensures ∙ sym further)
    (tells_same c.print_said.result c.told.result _ _ c.told.ensures
    (λ i. said_text c.args.sheet.now (innings i) (c.position-at.ensures i) (c.own_line.ensures.value i) (c.noted.ensures.noted i) c.args.between.now.warned
    (g.B.BookOf.content (c.book.ensures i)) said)
    c.print_said.ensures.text)
    (c.tell_if.ensures ∙ ap (λ (told : Option Told). g.T.Tells.tellings c.args.outside.now.teller ++ option_to_list told)
    (c.said_told.ensures.told ∙ (λ i. said_told (c.position-at.ensures i) (c.noted.ensures.noted i) said)))

pub print_said-requires-clause-fine : goal.print_said-requires-clause-fine
print_said-requires-clause-fine g c = let calls = c.pen-said.ensures.calls in search rules
