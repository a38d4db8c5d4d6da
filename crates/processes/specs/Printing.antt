-- What processes print and hand over to be shown, with the book that each shows then. The text of a call is printed once the
-- call is done: if the process is killed amid the printing, or a write fails, only a first part of the last text was printed.
use Rattle.std.specs.Prelude.{◌≡◌, ◌⊎◌, ℕ, List, [], ◌∷◌, Option, None}
use Rattle.notation.specs.declared.entry.Entry.{Entry}
use Rattle.corrections.specs.CleanList.{history_of}
use Rattle.cards.specs.Sheet.{Sheet}
use Rattle.cards.specs.Board.{board as board_text}
use Rattle.agree_core.specs.Boards.{BoardState}
use Rattle.agree_core.specs.Desks.{DeskState}
use Rattle.board.specs.declared.trouble.Trouble.{Trouble}
use Rattle.live.specs.Boards as boards
use Rattle.live.specs.Boards.{BoardCall}
use Rattle.live.specs.Desks.{DeskCall, DeskProcess, MayCall, after_call, own_line, told_of}
use Rattle.live.specs.Sights.{Sight, sight_of}
use Rattle.station_texts.specs.Texts.{greeting}

-- what a desk's process prints first, by this sheet: how the match and the desk stand
abbrev pub greeting_of : {Disk : Type 0} → Sheet → ℕ → DeskState Disk → List ℕ
greeting_of s innings k = greeting s innings k.book k.seat.position (own_line k)

-- The text is what the scorer is told of a call, by this sheet, by a process of desk k that may make the call, and by that
-- process after it, with desk l.
abbrev pub Tells : {Disk : Type 0} → Sheet → ℕ → DeskState Disk → DeskCall → DeskState Disk → List ℕ → Type 0
Tells s innings k call l text =
    (p : DeskProcess _) × (p.desk ≡ k) × MayCall p call × (text ≡ told_of s innings p call (after_call p call l))

-- The text is what a board prints of a call that leaves it in this state: at the end of a turn the six lines of its book, by
-- this sheet, or nothing; at any other call nothing.
abbrev pub Prints : Sheet → ℕ → BoardCall → BoardState → List ℕ → Type 0
Prints s innings boards.TurnEnded l text = (text ≡ board_text s innings (history_of l.book)) ⊎ (text ≡ [])
Prints s innings call l text = text ≡ []

-- a board that begins hands over this book to be shown, as its text and as its state, by this sheet, or it hands over nothing
abbrev pub HandsBook : Sheet → ℕ → List Entry → List Sight → Type 0
HandsBook s innings book seen = (seen ≡ sight_of s innings book None ∷ []) ⊎ (seen ≡ [])

-- at the end of each turn a board hands over its book, and what keeps it from going on, if anything does; at any other call
-- nothing
abbrev pub Hands : Sheet → ℕ → BoardCall → BoardState → List Sight → Type 0
Hands s innings boards.TurnEnded l seen = (trouble : Option Trouble) × (seen ≡ sight_of s innings l.book trouble ∷ [])
Hands s innings call l seen = seen ≡ []

-- what a board prints and hands over as its process begins: the six lines of its book, and that book
abbrev pub Greets : Sheet → ℕ → BoardState → List ℕ → List Sight → Type 0
Greets s innings k text seen = (text ≡ board_text s innings (history_of k.book)) × HandsBook s innings k.book seen
