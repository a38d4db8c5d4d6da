-- The match, the desk, its position, its own vote there, and its held lines. s is the sheet.
use Rattle.std.specs.Prelude.{ℕ, List, [], ◌∷◌, ◌++◌, Option, map, option_map, codes, decimal}
use Rattle.arrayvec.specs.ArrayString.{ArrayString}
use Rattle.notation.specs.declared.entry.Entry.{Entry}
use Rattle.notation.specs.Written.{text_of}
use Rattle.agree_core.specs.declared.{messages.DeskId.DeskId, position.Position.Position}
use Rattle.agree_core.specs.declared.messages.DeskId.TheVariants.{A, B}
use Rattle.cards.specs.Sheet.{Sheet}
use Rattle.json.specs.Json.{Json, string}
use Rattle.json_fields.specs.Values.{Field, array_of, text_field, number_field}
use Rattle.scoreboard.specs.Now.{text_or_null}

abbrev pub desk_text : DeskId → List ℕ
desk_text A = codes "a"
desk_text B = codes "b"

-- The match number is a text, since a reader's numbers may not be large enough for it.
abbrev pub match_fields : Sheet → List Field
match_fields s =
    text_field (codes "format") (codes "yermudosh desk 1") ∷ []
    ++ text_field (codes "match") (decimal s.game) ∷ []
    ++ text_field (codes "title") s.title ∷ []

-- the desk, and the position at which it votes
abbrev pub desk_fields : DeskId → Position → List Field
desk_fields desk at =
    text_field (codes "desk") (desk_text desk) ∷ []
    ++ number_field (codes "place") at.place ∷ []
    ++ number_field (codes "round") at.round ∷ []

abbrev pub whose_fields : Sheet → DeskId → Position → List Field
whose_fields s desk at = match_fields s ++ desk_fields desk at

-- its own vote at this position in full, if it has cast one
abbrev pub pending_field : Option Entry → Field
pending_field own = (codes "pending", text_or_null (option_map text_of own))

-- the lines as they were typed
abbrev pub lines_values : List ArrayString → List Json
lines_values lines = map (λ l. string l.bytes) lines

abbrev pub held_field : List ArrayString → Field
held_field lines = (codes "held", array_of (lines_values lines))

abbrev pub head_fields : Sheet → DeskId → Position → Option Entry → List ArrayString → List Field
head_fields s desk at own held =
    whose_fields s desk at ++ pending_field own ∷ [] ++ held_field held ∷ []
