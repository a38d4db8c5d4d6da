-- The outcome of all that is typed and told, in order.
use Rattle.std.specs.Prelude.{◌≡◌, ◌<◌, ◌≤◌, ◌&&◌, ◌||◌, ℕ, Bool, true, false, not, if◌then◌else◌, List, [], ◌∷◌, ◌++◌, take}
use Rattle.typing.specs.declared.heard.Came.{Came}
use Rattle.typing.specs.declared.heard.Came.TheVariants as comes
use Rattle.typing.specs.Terminals.{Standing, clear, ends_row, handed, key_drawn, line_drawn, pressed, told}

-- a typed byte, or a piece of the desk's rows
pub data Heard : Type 0 where
  Pressed : ℕ → Heard
  Rows : List ℕ → Heard

-- the log of what was heard grows by what came
abbrev pub IsHeard : Came → List ℕ → List Heard → List Heard → Type 0
IsHeard (comes.Key b) buffer old new = new ≡ old ++ Pressed b ∷ []
IsHeard (comes.Rows count) buffer old new =
    (0 < count) × (count ≤ 256) × (new ≡ old ++ Rows (take count buffer) ∷ [])
IsHeard came buffer old new = new ≡ old

abbrev pub next : Standing → Heard → Standing
next s (Pressed b) = pressed s b
next s (Rows bs) = told s bs

abbrev pub standing_behind : Standing → List Heard → Standing
standing_behind s [] = s
standing_behind s (x ∷ xs) = standing_behind (next s x) xs

-- what is handed to the desk
abbrev pub handed_by : Standing → Heard → List ℕ
handed_by s (Pressed b) = handed s b
handed_by s (Rows bs) = []

abbrev pub handed_from : Standing → List Heard → List ℕ
handed_from s [] = []
handed_from s (x ∷ xs) = handed_by s x ++ handed_from (next s x) xs

-- what is written to a terminal: bytes of its own, or what the desk tells
pub data Piece : Type 0 where
  Own : List ℕ → Piece
  Told : List ℕ → Piece

abbrev pub bytes_of : List Piece → List ℕ
bytes_of [] = []
bytes_of (Own bs ∷ pieces) = bs ++ bytes_of pieces
bytes_of (Told bs ∷ pieces) = bs ++ bytes_of pieces

abbrev pub key_pieces : Standing → ℕ → List Piece
key_pieces s b = Own (key_drawn (handed s b) (pressed s b)) ∷ []

-- the line being typed is cleared, if it is shown, and drawn again after a row's end
abbrev pub row_pieces : Standing → List ℕ → List Piece
row_pieces s bs =
    Own (if s.is_within then [] else clear) ∷ Told bs ∷ Own (if ends_row bs then line_drawn (told s bs) else []) ∷ []

abbrev pub pieces_by : Standing → Heard → List Piece
pieces_by s (Pressed b) = key_pieces s b
pieces_by s (Rows bs) = row_pieces s bs

abbrev pub pieces_from : Standing → List Heard → List Piece
pieces_from s [] = []
pieces_from s (x ∷ xs) = pieces_by s x ++ pieces_from (next s x) xs

-- ---- what holds of all events

-- the keys alone
abbrev pub keys_in : List Heard → List Heard
keys_in [] = []
keys_in (Pressed b ∷ xs) = Pressed b ∷ keys_in xs
keys_in (Rows bs ∷ xs) = keys_in xs

-- all that the desk tells
abbrev pub rows_in : List Heard → List ℕ
rows_in [] = []
rows_in (Pressed b ∷ xs) = rows_in xs
rows_in (Rows bs ∷ xs) = bs ++ rows_in xs

-- the part of what is written that the desk told
abbrev pub told_in : List Piece → List ℕ
told_in [] = []
told_in (Own bs ∷ pieces) = told_in pieces
told_in (Told bs ∷ pieces) = bs ++ told_in pieces

abbrev pub is_nothing : List ℕ → Bool
is_nothing [] = true
is_nothing (b ∷ bs) = false

-- nothing of the terminal's own is written within a row of the desk's; `is_within`: the pieces begin within such a row
abbrev pub is_unbroken : Bool → List Piece → Bool
is_unbroken is_within [] = true
is_unbroken is_within (Own bs ∷ pieces) = (not is_within || is_nothing bs) && is_unbroken is_within pieces
is_unbroken is_within (Told bs ∷ pieces) = is_unbroken (not (ends_row bs)) pieces
