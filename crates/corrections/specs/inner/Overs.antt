-- Where the over in progress begins among the items that stand.
use Rattle.std.specs.Prelude.{◌≡◌, ℕ, ◌≤◌, Bool, true, false, List, [], ◌∷◌, take, drop, length}
use Rattle.notation.specs.declared.entry.Plain.{Plain}
use Rattle.ball_laws.specs.History.{History, open_over, last_called_over}
use Rattle.corrections.specs.declared.placed.Placed.{Placed}
use Rattle.corrections.specs.CleanList.{history}
use Rattle.corrections.specs.Overs.{with_balls}

-- no over has deliveries both before and after the item
abbrev pub parts_overs : Plain → Bool
parts_overs Plain.Over = true
parts_overs (Plain.Innings side) = true
parts_overs (Plain.End cause) = true
parts_overs _ = false

-- a call of over
abbrev pub is_call : Plain → Bool
is_call Plain.Over = true
is_call _ = false

-- nothing has happened since an over was called or an innings began or ended
abbrev pub is_parted : History → Bool
is_parted [] = true
is_parted (x ∷ h) = parts_overs x

-- the items from this index on only add deliveries to the over that is open before it, and part no overs
pub record AddFrom (items : List Placed) (from : ℕ) : Type 0 where
  pub within : from ≤ length items
  pub this : with_balls (open_over (history (take from items))) (drop from items) ≡ open_over (history items)
  pub last : last_called_over (history (take from items)) ≡ last_called_over (history items)
