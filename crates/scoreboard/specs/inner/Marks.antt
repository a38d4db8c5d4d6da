-- The marks of the items of a clean list.
use Rattle.std.specs.Prelude.{List, [], ◌∷◌}
use Rattle.notation.specs.declared.entry.Plain.{Plain}
use Rattle.json.specs.Json.{Json, string}
use Rattle.cards.specs.Marks.{mark_of}

-- the mark of a delivery; no value for any other item
abbrev pub item_values : Plain → List Json
item_values (Plain.Ball b) = string (mark_of b) ∷ []
item_values _ = []
