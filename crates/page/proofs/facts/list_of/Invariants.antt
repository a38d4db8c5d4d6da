use Rattle.std.proofs.Common.{◌≡◌}
use Rattle.std.specs.Prelude.{string_bytes}
use Rattle.toml.specs.View.{view}
use Rattle.page.specs.Facts.{first_of}
use Rattle.page.proofs.facts.list_of.Given as goal

abbrev pub invariant-loop-index : goal.invariant-loop-index
invariant-loop-index l = string_bytes l.out ≡ first_of (view l.value) l.index
