use Rattle.std.proofs.Common.{◌≡◌, ◌<◌, ℕ, None, false, get_or}
use Rattle.viewers.specs.Places.{KeepsUnsigned, is_signed}
use Rattle.viewers.proofs.places.Places.let_signed_go.Given as goal

-- the signed viewers before this place are gone, and nobody else
abbrev pub invariant-loop-place : goal.invariant-loop-place
invariant-loop-place g l =
    ((k : ℕ) → k < l.place → is_signed (get_or l.self.viewers.items k None) ≡ false)
    × KeepsUnsigned l.initial.self.viewers.items l.self.viewers.items
