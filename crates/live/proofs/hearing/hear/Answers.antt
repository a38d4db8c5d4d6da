use Rattle.std.proofs.Common.{◌∙◌, ◌++◌, Option, ap, sym}
use Rattle.std.specs.Prelude.{option_to_list}
use Rattle.desk.specs.Desk.{state_of}
use Rattle.live.specs.Desks.{innings_of, own_line, shown_by}
use Rattle.live.specs.LostLines.{evidence_of}
use Rattle.live.specs.Paces.{Paced, ticking_of}
use Rattle.live.specs.declared.lost_lines.Bearing.{Bearing}
use Rattle.screen.specs.declared.told.Told.{Told}
use Rattle.station_texts.specs.Texts.{came_text, warned_after}
use Rattle.station_texts.specs.ToldValues.{came_told}
use Rattle.live.proofs.CameLemmas.{came_so, told_so}
use Rattle.live.proofs.DeskLemmas.{hears, hears_last, taken}
use Rattle.live.proofs.LostLemmas.{replies_so, shown_so}
use Rattle.live.proofs.TellingLemmas.{goes_further, tells_same}
use Rattle.live.proofs.hearing.hear.Goals as goal

pub returns-in-Err-clause-ticking : goal.returns-in-Err-clause-ticking
returns-in-Err-clause-ticking g c = ap (λ (p : Paced). p.ticking) c.note.ensures

pub returns-clause-ticking : goal.returns-clause-ticking
returns-clause-ticking g c = ap (λ (p : Paced). p.ticking) c.note.ensures

pub returns-in-Err-clause-goes : goal.returns-in-Err-clause-goes
returns-in-Err-clause-goes g c = λ bytes logs turns reads came.
    let what = c.take-received.result.what in
    let answer = c.take-received.ensures in
    let calls = taken c.args.sheet.now c.args.desk.now c.take-received.new.self bytes what c.take-received.result.reply _ _
    answer.owner (answer.step bytes reads) answer.blame c.hand_back.ensures in
    let told = c.bearing_of-bearing.ensures in
    let shown = c.evidence-evidence.ensures ∙ ap (λ (b : Bearing). evidence_of b what) c.behind.ensures
    ∙ shown_so _ _ _ _ bytes c.args.read.now what calls.out c.bearing_of-bearing.result c.is_some.result calls.step reads
    told.another told.unkept told.passed_over told.in_reach told.level
    (λ asked. c.is_some.ensures ∙ replies_so _ _ _ _ bytes what c.take-received.result.reply (answer.step bytes reads) asked) in
    hears_last {ticking = ticking_of c.args.between.now.pace} what c.in-Err.end c.args.between.now.pace.in_time (returns-in-Err-clause-ticking g c) calls came
    (c.after-between.ensures ∙ ap (λ evidence. warned_after c.args.between.now.warned evidence what) shown)
    (sym c.end_at.ensures ∙ c.in-Err.is)

pub returns-clause-goes : goal.returns-clause-goes
returns-clause-goes g c = λ bytes logs turns reads came.
    let what = c.take-received.result.what in
    let sheet = c.args.sheet.now in
    let desk = c.args.desk.now in
    let answer = c.take-received.ensures in
    let calls = taken sheet desk c.take-received.new.self bytes what c.take-received.result.reply _ _
    answer.owner (answer.step bytes reads) answer.blame c.hand_back.ensures in
    let innings = ap g.B.BookOf.innings_a_side c.book.ensures ∙ calls.same.innings_a_side in
    let told = c.bearing_of-bearing.ensures in
    let shown = c.evidence-evidence.ensures ∙ ap (λ (b : Bearing). evidence_of b what) c.behind.ensures
    ∙ shown_so _ _ _ _ bytes c.args.read.now what calls.out c.bearing_of-bearing.result c.is_some.result calls.step reads
    told.another told.unkept told.passed_over told.in_reach told.level
    (λ asked. c.is_some.ensures ∙ replies_so _ _ _ _ bytes what c.take-received.result.reply (answer.step bytes reads) asked) in
    let further = sym c.end_at.ensures ∙ c.in_default.is in
    hears {ticking = ticking_of c.args.between.now.pace} what c.args.between.now.pace.in_time (returns-clause-ticking g c) calls came
    (c.after-between.ensures ∙ ap (λ evidence. warned_after c.args.between.now.warned evidence what) shown)
    (goes_further c.print_came.result c.told.result c.told.ensures ∙ sym further)
    (tells_same c.print_came.result c.told.result _ _ c.told.ensures
    ((λ i. came_text sheet (innings i) (c.position-at.ensures i).place (c.own_line.ensures.value i) c.entry_in.result
    (g.B.BookOf.content (c.book.ensures i)) c.args.between.now.warned (shown i) what)
    ∙ came_so _ _ _ _ bytes c.args.read.now what calls.out c.entry_in.result calls.step reads c.entry_in.ensures.vote sheet (innings_of desk)
    (state_of desk).seat.position.place (own_line (state_of desk)) (state_of c.take-received.new.self).book c.args.between.now.warned
    (shown_by (state_of desk) bytes what))
    c.print_came.ensures.text)
    (c.tell_if.ensures ∙ ap (λ (told : Option Told). g.T.Tells.tellings c.args.teller.now ++ option_to_list told)
    (c.came_told.ensures.told
    ∙ ((λ i. came_told (c.position-at.ensures i).place (c.own_line.ensures.value i) c.entry_in.result c.args.between.now.warned (shown i) what)
    ∙ told_so _ _ _ _ bytes c.args.read.now what calls.out c.entry_in.result calls.step reads c.entry_in.ensures.vote
    (state_of desk).seat.position.place (own_line (state_of desk)) c.args.between.now.warned (shown_by (state_of desk) bytes what))))
