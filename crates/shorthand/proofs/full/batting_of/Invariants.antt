use Rattle.std.proofs.Common.{◌≡◌, ◌-◌, length, take}
use Rattle.match_laws.specs.History.{last_side}
use Rattle.corrections.specs.CleanList.{history}
use Rattle.shorthand.proofs.full.batting_of.Given as goal

abbrev pub invariant-loop-behind : goal.invariant-loop-behind
invariant-loop-behind l = last_side (history (take (length l.items - l.behind) l.items)) ≡ last_side (history l.items)
