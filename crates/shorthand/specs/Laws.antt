-- What holds of all lines.
use Rattle.std.specs.Prelude.{◌≡◌, ◌⊎◌, ◌≤◌, ℕ, Some, None, List, [], ◌∷◌, length, Ok, Err}
use Rattle.notation.specs.declared.{entry.Ball.Ball, entry.Side.Side, entry.Cause.Cause, entry.Plain.Plain, entry.Entry.Entry, fault.LineFault.LineFault}
use Rattle.notation.specs.Written.{IsEntry, Token, text_of}
use Rattle.notation.specs.Reading.{line_answer}
use Rattle.ball_laws.specs.History.{History}
use Rattle.corrections.specs.CleanList.{history_of}
use Rattle.cards.specs.Sheet.{Sheet, Team}
use Rattle.shorthand.specs.declared.names.Among.TheVariants.{Anyone}
use Rattle.shorthand.specs.declared.names.Fit.TheVariants.{LastWord, Beginning}
use Rattle.shorthand.specs.declared.names.Found.TheVariants.{One}
use Rattle.shorthand.specs.declared.full.Belongs.TheVariants.{Last}
use Rattle.shorthand.specs.Names.{fitting, meant_by}
use Rattle.shorthand.specs.Points.{point_of, point_at}
use Rattle.shorthand.specs.Full.{in_full}

-- an entry's line is its own full form, whatever the book and the sheet
abbrev pub FullLinesStand : Type 0
FullLinesStand = (s : Sheet) (book : List Entry) (e : Entry) → IsEntry e → in_full s book (text_of e) ≡ Ok (text_of e)

-- the text is an entry's, with its numbers in range, or reading it gives its fault
abbrev pub IsReadOrRefused : List ℕ → Type 0
IsReadOrRefused text =
    ((e : Entry) × IsEntry e × (text ≡ text_of e)) ⊎ ((f : LineFault) × (line_answer text ≡ Err f))

-- the full form of a line has at most 96 bytes, and is an entry's or is refused with its own fault
pub record TakenLinesAreRead : Type 0 where
  pub fits : (s : Sheet) (book : List Entry) (line text : List ℕ) → in_full s book line ≡ Ok text → length text ≤ 96
  pub read : (s : Sheet) (book : List Entry) (line text : List ℕ) → in_full s book line ≡ Ok text → IsReadOrRefused text

-- at the end of a book, the bowler left out is the last delivery's of the over that is open by the Laws' history of the
-- book; there is none after `over`, where an innings begins or has ended, and before the first delivery
pub record BowlerLeftOutIsTheLast : Type 0 where
  pub of_book : (book : List Entry) → point_at book Last ≡ point_of (history_of book)
  pub delivery : (h : History) (b : Ball) → (point_of (Plain.Ball b ∷ h)).bowler ≡ Some b.bowler
  pub over : (h : History) → (point_of (Plain.Over ∷ h)).bowler ≡ None
  pub innings : (h : History) (side : Side) → (point_of (Plain.Innings side ∷ h)).bowler ≡ None
  pub ended : (h : History) (cause : Cause) → (point_of (Plain.End cause ∷ h)).bowler ≡ None
  pub nothing : (point_of []).bowler ≡ None

-- a name means the one player of the team whose last word it is, or the one player with a word that begins with it
abbrev pub NamesMeanOne : Type 0
NamesMeanOne = (team : Team) (name : Token) (n : ℕ) → meant_by team name ≡ One n
    → (fitting Anyone LastWord team name ≡ n ∷ []) ⊎ (fitting Anyone Beginning team name ≡ n ∷ [])
