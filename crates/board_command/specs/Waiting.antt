-- What a page shows before a desk is heard.
use Rattle.std.specs.Prelude.{◌≡◌, ◌⊎◌, ℕ, ◌-◌, List, ◌++◌, length, take, decimal, codes, Option, Some, None, IsSome, option_map}
use Rattle.std.specs.Str.Iter.{HasSubslice}
use Rattle.json.specs.Json.{document}
use Rattle.notation.specs.declared.entry.Entry.{Entry}
use Rattle.cards.specs.Sheet.{Sheet}
use Rattle.scoreboard.specs.Value.{board_text}
use Rattle.scoreboard.specs.declared.value.LastHeard.{LastHeard}
use Rattle.board_command.specs.declared.waiting.Waiting.{Waiting}

-- the head of a state of the match with this number
abbrev pub head_of : ℕ → List ℕ
head_of game = codes "{\"format\":\"yermudosh board 1\",\"match\":\"" ++ (decimal game ++ codes "\",")

-- a line is a board's state of this match: a JSON value with this head
pub record IsStateOf (game : ℕ) (line : List ℕ) : Type 0 where
  pub rest : List ℕ
  pub begins : line ≡ head_of game ++ rest
  pub value : IsSome (document line)

-- the mark in a state where the times when the desks were heard begin
abbrev pub heard_mark : List ℕ
heard_mark = codes ",\"heard\":{"

-- the end of a state if neither desk was heard, and the board has no trouble
abbrev pub unheard_end : List ℕ
unheard_end = codes ",\"heard\":{\"a\":null,\"b\":null},\"trouble\":null}\n"

-- count bytes of a state tell of its book: those before its last mark of when the desks were heard; or all but its last brace,
-- if it has no such mark
abbrev pub TellsOfBook : List ℕ → ℕ → Type 0
TellsOfBook line count =
    ((rest : List ℕ) × (line ≡ take count line ++ (heard_mark ++ rest)) × ¬ (HasSubslice rest heard_mark))
    ⊎ (¬ (HasSubslice line heard_mark) × (count ≡ length line - 1))

-- the state of a board that has heard neither desk, with the book of this state
pub record IsUnheard (line state : List ℕ) : Type 0 where
  pub count : ℕ
  pub tells : TellsOfBook line count
  pub state_is : state ≡ take count line ++ unheard_end

-- a file has a board's state of this match, alone on its line, and the shown state is made from it
pub record IsKept (game : ℕ) (file state : List ℕ) : Type 0 where
  pub line : List ℕ
  pub is_line : file ≡ line ++ codes "\n"
  pub state_of : IsStateOf game line
  pub unheard : IsUnheard line state

-- the file that the shown state is made from, if any
abbrev pub file_of : Waiting → Option (List ℕ)
file_of waiting = option_map (λ text. text.value.items) waiting.file

abbrev pub nobody : LastHeard
nobody = record { a = None; b = None }

-- the shown state is made from a file, or it is that of a board with this book that has heard neither desk
abbrev pub IsOfFile : Sheet → ℕ → List Entry → Option (List ℕ) → List ℕ → Type 0
IsOfFile s n book (Some file) state = IsKept s.game file state
IsOfFile s n book None state = state ≡ board_text s n book nobody None

abbrev pub IsWaiting : Sheet → ℕ → List Entry → Waiting → Type 0
IsWaiting s n book waiting = IsOfFile s n book (file_of waiting) waiting.state.items
