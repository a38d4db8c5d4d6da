use Rattle.std.proofs.Common.{List}
use Rattle.json.specs.Token.{Token}
use Rattle.toml.specs.View.{members_view}
use Rattle.export.specs.inner.Putting.{PutsGiven}
use Rattle.export.proofs.given.put_given.Given as goal

-- tokens that complete the members from here complete them from the start
abbrev pub invariant-loop-key : goal.invariant-loop-key
invariant-loop-key l = (end : List Token) → PutsGiven (members_view l.key-iterator) l.out end → PutsGiven (members_view l.info.entries) l.initial.out end
