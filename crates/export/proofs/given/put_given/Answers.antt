use Rattle.std.proofs.Common.{◌≡◌, [], ◌∷◌, string_bytes, refl, sym, subst, rules}
use Rattle.toml.specs.View.{view, members_view}
use Rattle.toml.proofs.Views.{Entry}
use Rattle.json_fields.proofs.Putting.{no_fields}
use Rattle.export.specs.inner.Putting.{PutsGiven, PutsHanded}
use Rattle.export.proofs.GivenLemmas.{puts_more}
use Rattle.export.proofs.given.put_given.Goals as goal

pub loop-key-preserved : goal.loop-key-preserved
loop-key-preserved c =
    let l = c.loop-key in
    let e : Entry = (c.in-Some.key.now, c.in-Some.value.now) in
    let step : l.key-iterator ≡ e ∷ c.next.new.self = c.in-Some.ensures.steps in
    let one : PutsHanded (string_bytes e.0) (view e.1) l.out c.put_handed.new.out = search rules in
    λ end rest. l.invariant end (subst (λ es. PutsGiven (members_view es) l.out end) (sym step) (puts_more (string_bytes e.0) (view e.1) (members_view c.next.new.self) l.out _ end one rest))

pub returns : goal.returns
returns c =
    let l = c.loop-key in
    l.invariant l.out (subst (λ es. PutsGiven (members_view es) l.out l.out) (sym c.in-None.ensures.steps.0) ([], refl, no_fields l.out))
