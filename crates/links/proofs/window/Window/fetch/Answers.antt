use Rattle.std.proofs.Common.{◌≡◌, ◌⊎◌, ◌∷◌, ◌++◌, [], ap, ◌∙◌, subst}
use Rattle.links.specs.Windows.{HasAsked, Windowed}
use Rattle.links.proofs.WindowLemmas.{until_news}
use Rattle.links.proofs.window.Window.fetch.Goals as goal

pub returns-clause-quiet : goal.returns-clause-quiet
returns-clause-quiet g c =
    let now = c.millis-now.result in
    let due = c.ask_what_is_due-wait.new.self in
    let read = c.ask_what_is_due-wait.ensures.readings ∙ (c.millis-now.ensures ∙ ap (λ (w : Windowed). w.readings ++ now ∷ []) c.self.view_is) in
    let game = c.ask_what_is_due-wait.ensures.kept.0 ∙ ap (λ (w : Windowed). w.game) c.self.view_is in
    let kept = c.ask_what_is_due-wait.ensures.votes ∙ ap (λ (w : Windowed). w.kept) c.self.view_is in
    let quiet = subst (λ (w : Windowed). (due.quiet_since ≡ w.quiet_since) ⊎ ((due.quiet_since ≡ now) × HasAsked w due)) c.self.view_is
    c.ask_what_is_due-wait.ensures.quiet in
    until_news c.brought.result.0 c.brought.new.buffer now c.args.self.now due c.brought.new.self read game kept quiet
    c.brought.ensures.grown c.brought.ensures.read c.brought.ensures.quiet
