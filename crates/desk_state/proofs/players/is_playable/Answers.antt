use Rattle.std.proofs.Common.{◌∙◌, ap, sym}
use Rattle.notation.specs.declared.entry.{Ball.Ball, Plain.Plain}
use Rattle.match_laws.specs.Refusals.{refusal}
use Rattle.corrections.specs.CleanList.{history_of}
use Rattle.desk_state.specs.Players.{is_playable}
use Rattle.desk_state.proofs.CheckLemmas.{refused, taken}
use Rattle.desk_state.proofs.players.is_playable.Goals as goal

pub returns-in-Ok : goal.returns-in-Ok
returns-in-Ok g c =
    let n = g.B.BookOf.innings_a_side c.args.book.now in
    let book = g.B.BookOf.content c.args.book.now in
    let taken = taken n book (Plain.Ball c.dot_of.result) c.in-Ok.ensures.0 in
    sym (ap (λ (b : Ball). is_playable (refusal n (history_of book) (Plain.Ball b))) (sym c.dot_of.ensures) ∙ ap is_playable taken)

pub returns-in-Err : goal.returns-in-Err
returns-in-Err g c =
    let n = g.B.BookOf.innings_a_side c.args.book.now in
    let book = g.B.BookOf.content c.args.book.now in
    c.is_vacancy.ensures ∙ refused n book (Plain.Ball c.dot_of.result) _ c.in-Err.ensures
    ∙ ap (λ (b : Ball). is_playable (refusal n (history_of book) (Plain.Ball b))) c.dot_of.ensures
