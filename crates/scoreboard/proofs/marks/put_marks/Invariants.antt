use Rattle.std.proofs.Common.{◌≡◌, ◌++◌, take}
use Rattle.std.specs.List.{flat_map}
use Rattle.json_fields.specs.Values.{values_tokens}
use Rattle.scoreboard.specs.inner.Marks.{item_values}
use Rattle.scoreboard.proofs.marks.put_marks.Given as goal

-- the marks of the deliveries so far are put
abbrev pub invariant-loop-placed : goal.invariant-loop-placed
invariant-loop-placed l =
    l.out ≡ l.initial.out ++ values_tokens (flat_map (λ x. item_values x.item) (take l.placed-index l.over))
