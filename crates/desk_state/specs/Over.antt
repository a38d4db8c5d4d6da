-- The deliveries of an over with the places of their entries, the oldest first. A list of placed items has the newest first.
use Rattle.std.specs.Prelude.{ℕ, List, [], ◌∷◌, ◌++◌, map, reverse, codes}
use Rattle.notation.specs.declared.entry.{Plain.Plain, Entry.Entry}
use Rattle.corrections.specs.declared.placed.Placed.{Placed}
use Rattle.corrections.specs.CleanList.{clean_items_of}
use Rattle.cards.specs.Marks.{mark_of}
use Rattle.json.specs.Json.{Json}
use Rattle.json_fields.specs.Values.{Field, array_of, object_of, number_field, text_field}
use Rattle.desk_state.specs.declared.deliveries.Delivery.{Delivery}

-- the over after the item at place p
abbrev pub over_with : ℕ → Plain → List Delivery → List Delivery
over_with p (Plain.Ball b) over = over ++ record { place = p; ball = b } ∷ []
over_with p Plain.Over over = []
over_with p (Plain.Innings side) over = []
over_with p (Plain.End cause) over = []
over_with p x over = over

-- the current over
abbrev pub this_over : List Placed → List Delivery
this_over [] = []
this_over (x ∷ xs) = over_with x.place x.item (this_over xs)

-- the over called last in the open innings, after an item before which `this` and `last` were the two overs
abbrev pub last_with : Plain → List Delivery → List Delivery → List Delivery
last_with Plain.Over this last = this
last_with (Plain.Innings side) this last = []
last_with (Plain.End cause) this last = []
last_with x this last = last

abbrev pub last_over : List Placed → List Delivery
last_over [] = []
last_over (x ∷ xs) = last_with x.item (this_over xs) (last_over xs)

-- this over, or the last one while this one has no delivery
abbrev pub this_or_last : List Delivery → List Delivery → List Delivery
this_or_last [] last = last
this_or_last (d ∷ ds) last = d ∷ ds

-- the over shown for a book
abbrev pub over_shown : List Entry → List Delivery
over_shown book = this_or_last (this_over (reverse (clean_items_of book))) (last_over (reverse (clean_items_of book)))

abbrev pub delivery_value : Delivery → Json
delivery_value d = object_of (number_field (codes "place") d.place ∷ [] ++ text_field (codes "mark") (mark_of d.ball) ∷ [])

abbrev pub over_field : List Delivery → Field
over_field over = (codes "over", array_of (map delivery_value over))
