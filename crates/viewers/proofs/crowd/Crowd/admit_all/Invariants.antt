use Rattle.viewers.specs.Places.{KeepsSigned}
use Rattle.viewers.proofs.crowd.Crowd.admit_all.Given as goal

-- every viewer that was signed at first is there, unchanged
abbrev pub invariant-loop : goal.invariant-loop
invariant-loop l = KeepsSigned l.initial.self.places.viewers.items l.self.places.viewers.items
