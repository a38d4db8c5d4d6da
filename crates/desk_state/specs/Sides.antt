-- Both sides: their names, and the names of their players in the order of their numbers. s is the sheet.
use Rattle.std.specs.Prelude.{ℕ, List, [], ◌∷◌, ◌++◌, map, codes}
use Rattle.notation.specs.declared.entry.Side.{Side}
use Rattle.notation.specs.declared.entry.Side.TheVariants.{Home, Away}
use Rattle.ball_laws.specs.Over.{numbers}
use Rattle.cards.specs.Sheet.{Sheet, name_of, player_of}
use Rattle.json.specs.Json.{Json, string}
use Rattle.json_fields.specs.Values.{Field, array_of, object_of, text_field}

-- the names of these players
abbrev pub names_of : Sheet → Side → List ℕ → List Json
names_of s side ns = map (λ p. string (player_of s side p)) ns

abbrev pub players_field : Sheet → Side → Field
players_field s side = (codes "players", array_of (names_of s side numbers))

abbrev pub side_value : Sheet → Side → Json
side_value s side = object_of (text_field (codes "name") (name_of s side) ∷ [] ++ players_field s side ∷ [])

abbrev pub sides_field : Sheet → Field
sides_field s =
    (codes "sides", object_of ((codes "home", side_value s Home) ∷ [] ++ (codes "away", side_value s Away) ∷ []))
