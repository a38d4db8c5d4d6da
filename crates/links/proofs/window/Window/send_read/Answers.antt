use Rattle.std.proofs.Common.{◌≡◌, ◌⊎◌, ◌∷◌, ◌++◌, [], true, true≢false, ◌∙◌, ap, subst, sym, inl, inr, ⊎_elim}
use Rattle.agree_core.specs.declared.messages.{Ask.Ask, Message.Message}
use Rattle.wire.specs.Layout.{Says}
use Rattle.wire.specs.Reading.{Reads}
use Rattle.links.specs.Passed.{Sent}
use Rattle.links.specs.Windows.{HandsDown, HasAnswers, IsAsk, IsQuietAt, IsQuietOrAsks, Windowed}
use Rattle.links.specs.declared.link.Receivers.TheVariants.{ToAll}
use Rattle.links.proofs.WindowLemmas.{is_handed, kept_handed, now_sent}
use Rattle.links.proofs.window.Window.send_read.Goals as goal

pub invariant_of-self : goal.invariant_of-self
invariant_of-self g c = is_handed _ _ c.sent.ensures c.self.invariant

pub note-requires : goal.note-requires
note-requires g c = subst (λ (w : Windowed). Reads w.game c.args.bytes.now c.args.read) (sym c.self.view_is) c.requires

pub say-requires : goal.say-requires
say-requires g c = kept_handed _ _ c.note.ensures.kept.1 (now_sent _ _ _ c.sent.ensures)

pub returns-then-note-clause-asked : goal.returns-then-note-clause-asked
returns-then-note-clause-asked g c =
    let read = c.say.ensures.still.2 ∙ (c.note.ensures.readings ∙ (c.millis-now.ensures ∙ ap (λ (w : Windowed). w.readings ++ c.millis-now.result ∷ []) c.self.view_is)) in
    let down : HandsDown ToAll c.args.bytes.now c.args.self.now c.say.new.self =
    c.say.ensures.said ∙ ap (λ l. l ++ Sent ToAll c.args.bytes.now ∷ []) (c.note.ensures.below ∙ ap (λ (w : Windowed). w.below) c.self.view_is) in
    let quiet : IsQuietOrAsks c.millis-now.result c.args.self.now c.say.new.self =
    ⊎_elim (λ e. inl (c.say.ensures.still.3 ∙ (e ∙ ap (λ (w : Windowed). w.quiet_since) c.self.view_is)))
    (λ q. inr (c.say.ensures.still.3 ∙ q.0, (_, subst (λ (w : Windowed). IsAsk w.game c.args.bytes.now) c.self.view_is q.1, down)))
    c.note.ensures.quiet in
    record { now = c.millis-now.result; read = read; asked = λ q s h. inl down; quiet = quiet }

pub returns-else-note-clause-asked : goal.returns-else-note-clause-asked
returns-else-note-clause-asked g c =
    let read = c.note.ensures.readings ∙ (c.millis-now.ensures ∙ ap (λ (w : Windowed). w.readings ++ c.millis-now.result ∷ []) c.self.view_is) in
    let asked = subst (λ (w : Windowed). (q : Ask) → Says w.game c.args.bytes.now (Message.Ask q) → IsQuietAt c.millis-now.result w
    → (c.note.result ≡ true) ⊎ HasAnswers w.game c.note.new.self.kept q) c.self.view_is c.note.ensures.asked in
    let quiet : IsQuietOrAsks c.millis-now.result c.args.self.now c.note.new.self =
    ⊎_elim (λ e. inl (e ∙ ap (λ (w : Windowed). w.quiet_since) c.self.view_is)) (λ q. absurd (true≢false (sym q.2 ∙ c.if-note.false))) c.note.ensures.quiet in
    record {
      now = c.millis-now.result;
      read = read;
      asked = λ q s h. ⊎_elim {C = HandsDown ToAll c.args.bytes.now c.args.self.now c.note.new.self ⊎ HasAnswers c.args.self.now.game c.note.new.self.kept q}
          (λ e. absurd (true≢false (sym e ∙ c.if-note.false))) (λ a. inr a) (asked q s h);
      quiet = quiet;
    }
