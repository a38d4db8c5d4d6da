-- The state of a desk as one JSON value: a function of the sheet s, the book with n innings a side, the desk and its position,
-- its own vote there, and its held lines. Nothing in it depends on the other desk's vote.
use Rattle.std.specs.Prelude.{ℕ, List, [], ◌∷◌, ◌++◌, Option, codes}
use Rattle.arrayvec.specs.ArrayString.{ArrayString}
use Rattle.notation.specs.declared.entry.Entry.{Entry}
use Rattle.ball_laws.specs.History.{History}
use Rattle.corrections.specs.CleanList.{history_of}
use Rattle.agree_core.specs.declared.{messages.DeskId.DeskId, position.Position.Position}
use Rattle.cards.specs.Sheet.{Sheet}
use Rattle.json.specs.Json.{Json}
use Rattle.json.specs.Tree.{json_tokens}
use Rattle.json.specs.Print.{print}
use Rattle.json_fields.specs.Values.{Field, object_of, text_field}
use Rattle.scoreboard.specs.Value.{board_value}
use Rattle.desk_state.specs.Wants.{wants, wants_text}
use Rattle.desk_state.specs.Players.{batters, bowlers, numbers_value}
use Rattle.desk_state.specs.Over.{over_shown, over_field}
use Rattle.desk_state.specs.Book.{news_field}
use Rattle.desk_state.specs.Sides.{sides_field}
use Rattle.desk_state.specs.Head.{head_fields, whose_fields}

-- what comes next after the history h
abbrev pub next_fields : Sheet → ℕ → History → List Field
next_fields s n h =
    text_field (codes "wants") (wants_text (wants n h)) ∷ []
    ++ (codes "may_come_in", numbers_value (batters n h)) ∷ []
    ++ (codes "may_bowl", numbers_value (bowlers s n h)) ∷ []

-- the fields of a book; `board` is the value of a board with the same book
abbrev pub book_fields : Sheet → ℕ → List Entry → List Field
book_fields s n book =
    next_fields s n (history_of book)
    ++ over_field (over_shown book) ∷ []
    ++ news_field book ∷ []
    ++ sides_field s ∷ []
    ++ (codes "board", board_value s n book) ∷ []

abbrev pub state_value : Sheet → ℕ → List Entry → DeskId → Position → Option Entry → List ArrayString → Json
state_value s n book desk at own held = object_of (head_fields s desk at own held ++ book_fields s n book)

-- its text, as the library writes it, and a newline
abbrev pub state_text : Sheet → ℕ → List Entry → DeskId → Position → Option Entry → List ArrayString → List ℕ
state_text s n book desk at own held = print (json_tokens (state_value s n book desk at own held)) ++ codes "\n"

-- what anyone may read of it: all but its own vote and its held lines. It is a function of only the sheet, the book, the desk
-- and its position
abbrev pub open_value : Sheet → ℕ → List Entry → DeskId → Position → Json
open_value s n book desk at = object_of (whose_fields s desk at ++ book_fields s n book)

abbrev pub open_text : Sheet → ℕ → List Entry → DeskId → Position → List ℕ
open_text s n book desk at = print (json_tokens (open_value s n book desk at)) ++ codes "\n"
