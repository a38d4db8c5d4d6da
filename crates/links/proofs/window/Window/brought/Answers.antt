use Rattle.std.proofs.Common.{◌≡◌, ◌⊎◌, subst, inl, inr, sym, ⊎_elim}
use Rattle.std.specs.BTreeMap.{values}
use Rattle.links.specs.Windows.{GivesVote, HasMore, HasSince, IsGrown, Windowed}
use Rattle.links.proofs.WindowLemmas.{grown_by, grown_in, grown_taken, hears, same_asked, since_now, taken_brought}
use Rattle.links.proofs.window.Window.brought.Goals as goal

pub invariant_of-self : goal.invariant_of-self
invariant_of-self g c =
    same_asked c.hear.ensures.asked (hears c.take-taken.result _ c.take-taken.ensures c.hear.ensures.votes c.self.invariant)

pub returns-clause-brought : goal.returns-clause-brought
returns-clause-brought g c count e = taken_brought _ _ _ c.take-taken.result _ c.take-taken.ensures count (c.hear.ensures.given count e)

pub returns-clause-grown : goal.returns-clause-grown
returns-clause-grown g c = grown_in c.self.view_is (grown_taken c.take-taken.result _ _ c.take-taken.ensures)

pub returns-clause-read : goal.returns-clause-read
returns-clause-read g c =
    subst (λ (w : Windowed). IsGrown w.readings (g.C.Clock.readings c.millis-now.new.self)) c.self.view_is (grown_by _ _ c.millis-now.ensures)

pub returns-clause-quiet : goal.returns-clause-quiet
returns-clause-quiet g c =
    let last = c.hear.new.self.asking.last in
    let now = since_now (g.C.Clock.readings c.self.inside.clock) c.millis-now.result c.millis-now.ensures in
    subst (λ (w : Windowed). (last ≡ w.quiet_since) ⊎ (HasSince w.readings (g.C.Clock.readings c.millis-now.new.self) last
    × (GivesVote w.game c.hear.result.0 c.take-taken.new.buffer ⊎ HasMore w.kept (values c.hear.new.self.early.votes)))) c.self.view_is
    (⊎_elim (λ e. inl e) (λ n. inr (subst (HasSince (g.C.Clock.readings c.self.inside.clock) (g.C.Clock.readings c.millis-now.new.self)) (sym n.0) now, n.1))
    c.hear.ensures.last)
