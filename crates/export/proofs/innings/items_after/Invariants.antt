use Rattle.std.proofs.Common.{◌≡◌, ◌++◌, drop}
use Rattle.std.specs.Prelude.{filter, nat_lt}
use Rattle.export.proofs.innings.items_after.Given as goal

-- the items kept so far and the later innings' items among the rest are all such items
abbrev pub invariant-loop-index : goal.invariant-loop-index
invariant-loop-index l = l.items.items ++ filter (λ x. nat_lt l.innings x.innings) (drop l.index l.notes) ≡ filter (λ x. nat_lt l.innings x.innings) l.notes
