use Rattle.std.proofs.Common.{◌≡◌, IfOk, codes, sym, subst}
use Rattle.viewers.specs.Replies as texts
use Rattle.viewers.proofs.replies.reply.Goals as goal

pub returns-in-Lines : goal.returns-in-Lines
returns-in-Lines c =
    let lines = subst (λ t. IfOk c.shown_text.result
    (λ bytes. bytes.items ≡ texts.whole_text c.args.server.now c.args.shown.now.station 200 (codes "OK") texts.plain t c.args.head))
    c.as_slice.ensures.value c.shown_text.ensures in
    subst (λ a. IfOk c.shown_text.result
    (λ bytes. bytes.items ≡ texts.answer_text c.args.server.now a c.args.head c.args.shown.now))
    (sym c.in-Lines.is) lines

pub returns-in-State : goal.returns-in-State
returns-in-State c =
    let state = subst (λ t. IfOk c.shown_text-in-State.result
    (λ bytes. bytes.items ≡ texts.whole_text c.args.server.now c.args.shown.now.station 200 (codes "OK") texts.json t c.args.head))
    c.as_slice-in-State.ensures.value c.shown_text-in-State.ensures in
    subst (λ a. IfOk c.shown_text-in-State.result
    (λ bytes. bytes.items ≡ texts.answer_text c.args.server.now a c.args.head c.args.shown.now))
    (sym c.in-State.is) state

pub returns-in-Book : goal.returns-in-Book
returns-in-Book c =
    let book = subst (λ t. IfOk c.shown_text-in-Book.result
    (λ bytes. bytes.items ≡ texts.whole_text c.args.server.now c.args.shown.now.station 200 (codes "OK") texts.json t c.args.head))
    c.as_slice-in-Book.ensures.value c.shown_text-in-Book.ensures in
    subst (λ a. IfOk c.shown_text-in-Book.result
    (λ bytes. bytes.items ≡ texts.answer_text c.args.server.now a c.args.head c.args.shown.now))
    (sym c.in-Book.is) book

pub returns-in-Missing : goal.returns-in-Missing
returns-in-Missing c =
    subst (λ a. IfOk c.short_answer-in-Missing.result
    (λ bytes. bytes.items ≡ texts.answer_text c.args.server.now a c.args.head c.args.shown.now))
    (sym c.in-Missing.is) c.short_answer-in-Missing.ensures

pub returns-in-Method : goal.returns-in-Method
returns-in-Method c =
    subst (λ a. IfOk c.short_answer-in-Method.result
    (λ bytes. bytes.items ≡ texts.answer_text c.args.server.now a c.args.head c.args.shown.now))
    (sym c.in-Method.is) c.short_answer-in-Method.ensures

pub returns-in-Foreign : goal.returns-in-Foreign
returns-in-Foreign c =
    subst (λ a. IfOk c.short_answer-in-Foreign.result
    (λ bytes. bytes.items ≡ texts.answer_text c.args.server.now a c.args.head c.args.shown.now))
    (sym c.in-Foreign.is) c.short_answer-in-Foreign.ensures

pub returns-in-Faulty : goal.returns-in-Faulty
returns-in-Faulty c =
    subst (λ a. IfOk c.refused.result
    (λ bytes. bytes.items ≡ texts.answer_text c.args.server.now a c.args.head c.args.shown.now))
    (sym c.in-Faulty.is) c.refused.ensures
