-- The words by which a scorer asks for something, and which write no entry.
use Rattle.std.specs.Prelude.{ℕ, ◌-◌, ◌==◌, Bool, true, false, ◌||◌, length, take, drop, Option, Some, None, if◌then◌else◌, List, [], ◌∷◌, codes, bytes_eq, option_map}
use Rattle.std.specs.Char.{is_ascii_whitespace}
use Rattle.std.specs.List.{list_all, suffix_len}
use Rattle.notation.specs.declared.entry.Side.{Side}
use Rattle.notation.specs.declared.entry.Side.TheVariants.{Home, Away}
use Rattle.notation.specs.Written.{Token, tokens, found_number}
use Rattle.match_laws.specs.History.{or_else}
use Rattle.cards.specs.Sheet.{is_printable}
use Rattle.screen.specs.declared.{topic.Topic.Topic, word.Word.Word}
use Rattle.screen.specs.declared.topic.Topic.TheVariants.{Innings, In, Ball, Gone, Over, Penalty, Swap, End, Close, Void, Fix, Late, Again, Undo, Listing, Score, Card, Players, Bowlers, Who, Plan, Quit, Short}

-- the topics of the words that begin an entry's line, except marks
abbrev pub line_topic : Token → Option Topic
line_topic t =
    if bytes_eq t (codes "innings") then Some Innings
    else if bytes_eq t (codes "in") then Some In
    else if bytes_eq t (codes "ball") then Some Ball
    else if bytes_eq t (codes "gone") then Some Gone
    else if bytes_eq t (codes "over") then Some Over
    else if bytes_eq t (codes "penalty") then Some Penalty
    else if bytes_eq t (codes "swap") then Some Swap
    else if bytes_eq t (codes "end") then Some End
    else if bytes_eq t (codes "close") then Some Close
    else if bytes_eq t (codes "void") then Some Void
    else if bytes_eq t (codes "fix") then Some Fix
    else if bytes_eq t (codes "late") then Some Late
    else if bytes_eq t (codes "again") then Some Again
    else None

-- the topics of a desk's own words, and of `short`
abbrev pub desk_topic : Token → Option Topic
desk_topic t =
    if bytes_eq t (codes "undo") then Some Undo
    else if bytes_eq t (codes "list") then Some Listing
    else if bytes_eq t (codes "score") then Some Score
    else if bytes_eq t (codes "card") then Some Card
    else if bytes_eq t (codes "players") then Some Players
    else if bytes_eq t (codes "bowlers") then Some Bowlers
    else if bytes_eq t (codes "who") then Some Who
    else if bytes_eq t (codes "plan") then Some Plan
    else if bytes_eq t (codes "quit") then Some Quit
    else if bytes_eq t (codes "short") then Some Short
    else None

-- the topic that a word names
abbrev pub topic_of : Token → Option Topic
topic_of t = or_else (line_topic t) (desk_topic t)

-- what a line of one token asks for; an empty line is one empty token
abbrev pub single : Token → Option Word
single t =
    if length t == 0 then Some Word.Where
    else if bytes_eq t (codes "list") then Some (Word.Entries 12)
    else if bytes_eq t (codes "score") then Some Word.Total
    else if bytes_eq t (codes "card") then Some Word.Cards
    else if bytes_eq t (codes "players") then Some Word.Sides
    else if bytes_eq t (codes "bowlers") then Some Word.Bowlers
    else if bytes_eq t (codes "who") then Some Word.Waiting
    else if bytes_eq t (codes "help") then Some Word.Forms
    else if bytes_eq t (codes "plan") then Some (Word.More Plan)
    else None

-- what a line of two tokens asks for
abbrev pub going : Token → Option Word
going t = if bytes_eq t (codes "on") then Some Word.GoOn else None

abbrev pub pair : Token → Token → Option Word
pair t u =
    if bytes_eq t (codes "list") then option_map Word.Entries (found_number 1 8192 u)
    else if bytes_eq t (codes "card") then option_map Word.CardsOf (found_number 1 4 u)
    else if bytes_eq t (codes "over") then option_map Word.Over (found_number 1 8191 u)
    else if bytes_eq t (codes "go") then going u
    else if bytes_eq t (codes "help") then option_map Word.More (topic_of u)
    else None

-- what a line of three tokens asks for
abbrev pub range : Option ℕ → Option ℕ → Option Word
range (Some first) (Some last) = Some (Word.Range first last)
range first last = None

abbrev pub triple : Token → Token → Token → Option Word
triple t u v =
    if bytes_eq t (codes "list") then range (found_number 0 8191 u) (found_number 0 8191 v) else None

-- what a line of four tokens asks for
abbrev pub side_in : Token → Option Side
side_in t = if bytes_eq t (codes "home") then Some Home else if bytes_eq t (codes "away") then Some Away else None

abbrev pub over_of : Option ℕ → Option Side → Option ℕ → Option Word
over_of (Some n) (Some side) (Some k) = Some (Word.OverOf n side k)
over_of n side k = None

abbrev pub quadruple : Token → Token → Token → Token → Option Word
quadruple t u v w =
    if bytes_eq t (codes "over") then over_of (found_number 1 8191 u) (side_in v) (found_number 1 2 w) else None

-- what a line of two tokens or more asks for
abbrev pub several : Token → Token → List Token → Option Word
several t u [] = pair t u
several t u (v ∷ []) = triple t u v
several t u (v ∷ w ∷ []) = quadruple t u v w
several t u (v ∷ w ∷ x ∷ ts) = None

-- what a line asks for; `plan` may have anything after it
abbrev pub word_from : List Token → Option Word
word_from [] = None
word_from (t ∷ []) = single t
word_from (t ∷ u ∷ ts) = if bytes_eq t (codes "plan") then Some Word.Plan else several t u ts

-- the word is `plan`, whose answer depends on more than the word
abbrev pub is_plan : Word → Bool
is_plan Word.Plan = true
is_plan word = false

-- a line without the blanks at its end
abbrev pub trimmed : List ℕ → List ℕ
trimmed line = take (length line - suffix_len is_ascii_whitespace line) line

abbrev pub asked : List ℕ → Option Word
asked line = if list_all is_printable line then word_from (tokens line) else None

-- what a line asks for, if it is one of these words
unfoldable pub word_of : List ℕ → Option Word
word_of line = asked (trimmed line)

-- what follows `plan ` in a printable line
abbrev pub plain : List ℕ → List ℕ
plain text = if list_all is_printable text then text else []

abbrev pub behind_plan : List ℕ → List ℕ
behind_plan line = plain (drop 5 (trimmed line))

-- the line ends the desk: `quit` or `exit`
abbrev pub ends_desk : List ℕ → Bool
ends_desk line = bytes_eq line (codes "quit") || bytes_eq line (codes "exit")

unfoldable pub is_end : List ℕ → Bool
is_end line = ends_desk (trimmed line)
