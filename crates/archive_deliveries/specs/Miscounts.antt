-- The overs of an innings that were called after fewer or more than six fair deliveries. xs are the items of the innings.
use Rattle.std.specs.Prelude.{◌==◌, Bool, true, false, not, ◌&&◌, if◌then◌else◌, List, [], ◌∷◌, codes, decimal}
use Rattle.std.specs.List.{list_any}
use Rattle.notation.specs.declared.entry.Plain.{Plain}
use Rattle.json_fields.specs.Values.{Field, object_of, number_field}
use Rattle.archive_deliveries.specs.declared.notes.Noted.{Noted}

abbrev pub is_call : Plain → Bool
is_call Plain.Over = true
is_call _ = false

abbrev pub is_miscounted : Noted → Bool
is_miscounted x = is_call x.item && not (x.balls == 6)

-- the over's number, from 0, with its number of fair deliveries
abbrev pub miscount_of : Noted → Field
miscount_of x = (decimal x.over, object_of (number_field (codes "balls") x.balls ∷ []))

abbrev pub miscounts : List Noted → List Field
miscounts [] = []
miscounts (x ∷ xs) = if is_miscounted x then miscount_of x ∷ miscounts xs else miscounts xs

abbrev pub miscounted_field : List Noted → Field
miscounted_field xs = (codes "miscounted_overs", object_of (miscounts xs))

-- the field of the miscounted overs, or no field if there are none
abbrev pub miscounted_fields : List Noted → List Field
miscounted_fields xs = if list_any is_miscounted xs then miscounted_field xs ∷ [] else []
