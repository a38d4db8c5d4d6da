-- What a terminal shows: the desk's rows, and below them the line being typed.
use Rattle.std.specs.Prelude.{◌-◌, ◌==◌, ℕ, Bool, false, not, if◌then◌else◌, List, [], ◌∷◌, ◌++◌, length, take, drop, slice_index_or, Option, Some, None, codes}
use Rattle.typing.specs.declared.{key.Key.Key, reading.Reading.Reading}
use Rattle.typing.specs.declared.reading.Reading.TheVariants.{Begun}
use Rattle.typing.specs.Drafts.{Draft, after, blank, entered}
use Rattle.typing.specs.Keys.{key_of, reading_behind}

-- the line being typed, how much of a key was read, whether a row of the desk's is incomplete, and the columns
pub record Standing : Type 0 where
  pub draft : Draft
  pub reading : Reading
  pub is_within : Bool
  pub columns : ℕ

-- nothing is typed or shown yet
abbrev pub begun : ℕ → Standing
begun columns = record { draft = blank; reading = Begun; is_within = false; columns = columns }

-- ---- keys

abbrev pub with_newline : List ℕ → List ℕ
with_newline line = line ++ codes "\n"

-- the entered line, if any, as it is handed to the desk
abbrev pub line_handed : Option (List ℕ) → List ℕ
line_handed None = []
line_handed (Some line) = with_newline line

-- what a key hands to the desk
abbrev pub handed_by : Draft → Option Key → List ℕ
handed_by d None = []
handed_by d (Some key) = line_handed (entered d key)

abbrev pub draft_behind : Draft → Option Key → Draft
draft_behind d None = d
draft_behind d (Some key) = after d key

-- what a byte hands to the desk, and the terminal after it
abbrev pub handed : Standing → ℕ → List ℕ
handed s b = handed_by s.draft (key_of s.reading b)

abbrev pub pressed : Standing → ℕ → Standing
pressed s b =
    record s { draft = draft_behind s.draft (key_of s.reading b); reading = reading_behind s.reading b }

-- ---- what is drawn

-- moves to the start of the terminal's row, and clears the row
abbrev pub clear : List ℕ
clear = 13 ∷ 27 ∷ codes "[K"

abbrev pub prompt : List ℕ
prompt = codes "> "

-- how many bytes of a line fit in the row
abbrev pub room : Standing → ℕ
room s = s.columns - 3

-- the shown part of the line before the cursor: its end, as far as it fits
abbrev pub front : Standing → List ℕ
front s = drop (s.draft.cursor - room s) (take s.draft.cursor s.draft.text)

-- the shown part of the line from the cursor on, as far as room is left
abbrev pub rest : Standing → List ℕ
rest s = take (room s - length (front s)) (drop s.draft.cursor s.draft.text)

abbrev pub front_drawn : Standing → List ℕ
front_drawn s = prompt ++ front s

-- the line being typed in place of the terminal's row, with the cursor where it stands
abbrev pub line_drawn : Standing → List ℕ
line_drawn s = clear ++ front_drawn s ++ rest s ++ codes "\r" ++ front_drawn s

-- the entered line, which stays above the next one
abbrev pub entered_drawn : List ℕ → List ℕ
entered_drawn [] = []
entered_drawn (b ∷ bs) = clear ++ prompt ++ (b ∷ bs)

-- the drawing after a byte that handed these bytes to the desk
abbrev pub key_drawn : List ℕ → Standing → List ℕ
key_drawn handed s = if s.is_within then [] else entered_drawn handed ++ line_drawn s

-- the last of these bytes ends a row
abbrev pub ends_row : List ℕ → Bool
ends_row bs = slice_index_or bs (length bs - 1) 0 == 10

-- the terminal after a piece of the desk's rows
abbrev pub told : Standing → List ℕ → Standing
told s bs = record s { is_within = not (ends_row bs) }

-- the drawing of such a piece: the line being typed is cleared, if it is shown, and drawn again after a row's end
abbrev pub rows_drawn : Standing → List ℕ → List ℕ
rows_drawn s bs =
    (if s.is_within then [] else clear) ++ bs ++ (if ends_row bs then line_drawn (told s bs) else [])

-- what leaves the terminal's row empty at the end
abbrev pub ending : Standing → List ℕ
ending s = if s.is_within then codes "\n" else clear
