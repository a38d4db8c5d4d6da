use Rattle.std.proofs.Common.{◌≡◌, drop}
use Rattle.page.specs.Innings.{cause_in}
use Rattle.page.proofs.innings.cause_in.Given as goal

-- the items from here on give the same cause as all items
abbrev pub invariant-loop-index : goal.invariant-loop-index
invariant-loop-index l = cause_in l.innings (drop l.index l.moments) ≡ cause_in l.innings l.moments
