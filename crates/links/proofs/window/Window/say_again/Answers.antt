use Rattle.std.proofs.Common.{◌∙◌, ap, inl, inr, subst, sym, ⊎_elim}
use Rattle.std.specs.BTreeMap.{values}
use Rattle.links.specs.Windows.{IsAsk, IsQuietOrAsks, Windowed}
use Rattle.links.proofs.WindowLemmas.{some_of}
use Rattle.links.proofs.window.Window.say_again.Goals as goal

pub returns-in-Some-clause-quiet : goal.returns-in-Some-clause-quiet
returns-in-Some-clause-quiet g c =
    let kept = c.say_again.ensures in
    let ask = some_of (IsAsk c.self.inside.game) c.self.inside.known.asking.bytes c.in-Some.bytes c.self.invariant.ask
    (sym kept.stays ∙ (sym kept.value ∙ c.in-Some.is)) in
    subst (λ (w : Windowed). IsQuietOrAsks c.args.now w c.ask.new.self) c.self.view_is
    (⊎_elim (λ e. inl (c.ask.ensures.still.3 ∙ e))
    (λ q. inr (c.ask.ensures.still.3 ∙ q.0, (c.in-Some.bytes, ask, c.ask.ensures.said (ap (λ early. values early.votes) kept.votes ∙ q.2)))) kept.last)
