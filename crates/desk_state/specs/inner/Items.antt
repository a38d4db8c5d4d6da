-- Items put one by one, and what a walk over them keeps.
use Rattle.std.specs.Prelude.{ℕ, Bool, false, if◌then◌else◌, Some, List, [], ◌∷◌}
use Rattle.corrections.specs.declared.{placed.Placed.Placed, refusal.Refusal.Refusal}
use Rattle.corrections.specs.declared.refusal.Refusal.TheVariants.{Law}
use Rattle.json.specs.Json.{Json}
use Rattle.json_fields.specs.Values.{number_value}
use Rattle.desk_state.specs.declared.deliveries.Delivery.{Delivery}
use Rattle.desk_state.specs.Players.{is_playable}
use Rattle.desk_state.specs.Over.{last_over, last_with, over_with, this_over}

-- a delivery is refused only because a batter has to come in first
abbrev pub is_vacancy : Refusal → Bool
is_vacancy (Law why) = is_playable (Some why)
is_vacancy why = false

-- a number if it is wanted, and otherwise nothing
abbrev pub number_if : Bool → ℕ → List Json
number_if holds n = if holds then number_value n ∷ [] else []

-- the current over and the over called last
pub record Noted : Type 0 where
  pub this : List Delivery
  pub last : List Delivery

abbrev pub none_noted : Noted
none_noted = record { this = []; last = [] }

-- after one more item
abbrev pub noted_after : Placed → Noted → Noted
noted_after x s = record { this = over_with x.place x.item s.this; last = last_with x.item s.this s.last }

-- after all of these items, the oldest first
abbrev pub noted_behind : Noted → List Placed → Noted
noted_behind s [] = s
noted_behind s (x ∷ xs) = noted_behind (noted_after x s) xs

-- both overs of a list with the newest item first
abbrev pub noted_of : List Placed → Noted
noted_of xs = record { this = this_over xs; last = last_over xs }
