-- The full form of a scorer's line, word by word, in the order of the table that scorers have. Words that no rule covers
-- stay as typed, so that reading the full line finds their faults.
use Rattle.std.specs.Prelude.{ℕ, ◌==◌, length, Bool, true, false, ◌||◌, ◌&&◌, if◌then◌else◌}
use Rattle.std.specs.Prelude.{Option, Some, None, List, [], ◌∷◌, map, codes, decimal, is_some, Result, Ok, Err}
use Rattle.std.specs.List.{before_first, after_first}
use Rattle.std.specs.Str.{bytes_eq, str_to_ascii_lowercase}
use Rattle.notation.specs.Written.{Token, tokens, who_text, all_whos, kind_text, all_kinds, found_number}
use Rattle.notation.specs.Reading.{line_answer}
use Rattle.notation.specs.declared.{fault.LineFault.LineFault, entry.Entry.Entry, entry.Side.Side}
use Rattle.notation.specs.declared.fault.LineFault.TheVariants.{TooLong, UnknownWord as NoWord, Spaces}
use Rattle.match_laws.specs.History.{opponent, or_else}
use Rattle.cards.specs.Sheet.{Sheet, team_of}
use Rattle.over_numbers.specs.declared.balls.Named.{Named}
use Rattle.over_numbers.specs.Balls.{named_ball, place_of}
use Rattle.shorthand.specs.declared.{names.Among.Among, names.Found.Found, full.Belongs.Belongs, delivery.Point.Point, unclear.Letter.Letter, unclear.Unaided.Unaided}
use Rattle.shorthand.specs.declared.names.Among.TheVariants.{Anyone}
use Rattle.shorthand.specs.declared.names.Found.TheVariants.{NoOne}
use Rattle.shorthand.specs.declared.full.Belongs.TheVariants.{Last, At, After}
use Rattle.shorthand.specs.Words.{behind_one, is_and_bowled, is_desk_word, is_hit_wicket, is_how, is_leave, is_line_word, is_no_ball, is_one_of, is_run_out, leave_apart, trimmed, two_meanings, way_of, without_fielder}
use Rattle.shorthand.specs.Lines.{NothingStands, Reason, Fault, WhoBowls, WhoIsOut, TwoMeanings, UnknownWord, Word, as_typed, joined, known, plus}
use Rattle.shorthand.specs.Names.{player, fielder, named, number_word, colon_name, names_bowler, no_fielder, no_such_ball, unknown_word, is_colon, is_digit_first, is_same}
use Rattle.shorthand.specs.Marks.{mark}
use Rattle.shorthand.specs.Points.{batters_at, point_at}
use Rattle.shorthand.specs.Undo.{last_standing}

-- ---- OUT: [out] HOW [WHO] [F] [crossed]

-- a fielder is named for a way of being out in which none has a part; 0 names nobody
abbrev pub refused_fielder : Option Unaided → Token → Option Unaided
refused_fielder None t = None
refused_fielder (Some how) t = if bytes_eq t (codes "0") then None else Some how

abbrev pub fielder_word : Sheet → Side → Option Unaided → Token → List Token → List Word
fielder_word s side (Some how) t ts = Err (no_fielder how t) ∷ []
fielder_word s side None t ts = (fielder s side t ts).0 ∷ as_typed (fielder s side t ts).1

-- the fielder: 0 if none is named, and the bowler b in `c & b`
abbrev pub by_fielder : Sheet → Side → Token → Token → List Token → List Word
by_fielder s side b how [] = Ok (codes "0") ∷ []
by_fielder s side b how (t ∷ ts) =
    if bytes_eq t (codes "crossed") then Ok (codes "0") ∷ as_typed (t ∷ ts)
    else if is_and_bowled how t ts then Ok b ∷ as_typed (behind_one ts)
    else fielder_word s side (refused_fielder (without_fielder how) t) t ts

-- run out and obstructing the field need who is out
abbrev pub needs_who : Token → Bool
needs_who how = is_one_of (codes "runout" ∷ codes "obstructing" ∷ []) how

-- who is out, the striker if nothing is said, and the fielder
abbrev pub who_is_out : Sheet → Side → Token → Token → List Token → List Word
who_is_out s side b how [] = if needs_who how then [] else Ok (codes "striker") ∷ by_fielder s side b how []
who_is_out s side b how (t ∷ ts) =
    if is_one_of (map who_text all_whos) t then Ok t ∷ by_fielder s side b how ts
    else if needs_who how then Err WhoIsOut ∷ []
    else Ok (codes "striker") ∷ by_fielder s side b how (t ∷ ts)

-- the way of being out, by its own word or a short one, who is out, and the fielder
abbrev pub dismissal : Sheet → Side → Token → List Token → List Word
dismissal s side b [] = []
dismissal s side b (t ∷ ts) =
    if bytes_eq t (codes "c&b") then Ok (codes "caught") ∷ Ok (codes "striker") ∷ Ok b ∷ as_typed ts
    else Ok (way_of t) ∷ who_is_out s side b (way_of t) ts

-- a way of being out that is said in two words
abbrev pub out_apart : Sheet → Side → Token → Token → List Token → List Word
out_apart s side b how ts = Ok (codes "out") ∷ Ok how ∷ who_is_out s side b how ts

-- ---- [OPTIONS] [OUT]

-- options stay as typed, up to the dismissal
abbrev pub behind_runs : Sheet → Side → Token → List Token → List Word
behind_runs s side b [] = []
behind_runs s side b (t ∷ ts) =
    if bytes_eq t (codes "out") then Ok t ∷ dismissal s side b ts
    else if is_how t then Ok (codes "out") ∷ dismissal s side b (t ∷ ts)
    else if is_run_out t ts then out_apart s side b (codes "runout") (behind_one ts)
    else if is_hit_wicket t ts then out_apart s side b (codes "hitwicket") (behind_one ts)
    else Ok t ∷ behind_runs s side b ts

-- the tokens begin the options or the dismissal
abbrev pub is_behind_runs : Token → List Token → Bool
is_behind_runs t ts =
    is_one_of (codes "short" ∷ codes "overthrow" ∷ codes "dead" ∷ codes "out" ∷ []) t
    || (is_how t || (is_run_out t ts || is_hit_wicket t ts))

-- ---- [RUNS] [OPTIONS] [OUT]

-- a number comes next
abbrev pub has_number : List Token → Bool
has_number [] = false
has_number (t ∷ ts) = is_digit_first t

-- a kind with 0 runs unless a number follows
abbrev pub from_none : Sheet → Side → Token → List Token → List Word
from_none s side b ts = if has_number ts then behind_runs s side b ts else Ok (codes "0") ∷ behind_runs s side b ts

-- no mark: bat 0 if no runs are named, otherwise a kind and a number as in a full line
abbrev pub unmarked : Sheet → Side → Token → Token → List Token → List Word
unmarked s side b t ts =
    if is_behind_runs t ts then Ok (codes "bat") ∷ Ok (codes "0") ∷ behind_runs s side b (t ∷ ts)
    else behind_runs s side b (t ∷ ts)

-- a kind alone: `wd`, `wide`, `nb`, `noball` and `no ball` with no run of the batters, and `lb` before a number
abbrev pub by_kind : Sheet → Side → Token → Token → List Token → List Word
by_kind s side b t ts =
    if is_one_of (codes "wd" ∷ codes "wide" ∷ []) t then Ok (codes "wide") ∷ from_none s side b ts
    else if is_one_of (codes "nb" ∷ codes "noball" ∷ []) t then Ok (codes "nb") ∷ from_none s side b ts
    else if is_no_ball t ts then Ok (codes "nb") ∷ from_none s side b (behind_one ts)
    else if bytes_eq t (codes "lb") && has_number ts then Ok (codes "leg") ∷ behind_runs s side b ts
    else unmarked s side b t ts

abbrev pub marked : Sheet → Side → Token → Option (Token × Token) → Token → List Token → List Word
marked s side b (Some m) t ts = Ok m.0 ∷ Ok m.1 ∷ behind_runs s side b ts
marked s side b None t ts = by_kind s side b t ts

-- a letter that means two things is refused, with both meanings named
abbrev pub unless_two : Option Letter → List Word → List Word
unless_two (Some letter) ws = Err (TwoMeanings letter) ∷ []
unless_two None ws = ws

unfoldable pub runs_from : Sheet → Side → Token → Token → List Token → List Word
runs_from s side b t ts = unless_two (two_meanings t) (marked s side b (mark t) t ts)

abbrev pub runs : Sheet → Side → Token → List Token → List Word
runs s side b [] = []
runs s side b (t ∷ ts) = runs_from s side b t ts

-- ---- [B:] [RUNS] [OPTIONS] [OUT]

-- the tokens, with this one before them unless it is empty
abbrev pub behind_colon : Token → List Token → List Token
behind_colon t ts = if length t == 0 then ts else t ∷ ts

-- the last delivery's bowler
abbrev pub same_bowler : Option ℕ → Word
same_bowler None = Err WhoBowls
same_bowler (Some n) = Ok (decimal n)

-- the token is a kind, by its own word or another
abbrev pub is_kind : Token → Bool
is_kind t = is_one_of (codes "wd" ∷ codes "noball" ∷ codes "lb" ∷ map kind_text all_kinds) t

-- the tokens begin a delivery's outcome
unfoldable pub begins_delivery : Token → List Token → Bool
begins_delivery t ts = is_some (mark t) || (is_kind t || (is_no_ball t ts || is_behind_runs t ts))

-- a delivery's outcome comes next, or a letter that means two things
abbrev pub has_delivery : List Token → Bool
has_delivery [] = false
has_delivery (t ∷ ts) = begins_delivery t ts || is_some (two_meanings t)

-- a bowler's name without a colon, if a delivery's outcome follows
abbrev pub is_someone : Found → Bool
is_someone NoOne = false
is_someone found = true

abbrev pub spoken : Sheet → Side → Token → List Token → Found × List Token → List Word
spoken s side t ts bowler =
    if has_delivery bowler.1 && is_someone bowler.0
    then Ok (codes "ball") ∷ number_word side t bowler.0 ∷ runs s side (known (number_word side t bowler.0)) bowler.1
    else as_typed (t ∷ ts)

-- a bowler's whole name of several words before a colon, else a name without a colon
abbrev pub by_colon : Sheet → Side → Token → List Token → Option (ℕ × Token × List Token) → List Word
by_colon s side t ts (Some found) =
    Ok (codes "ball") ∷ Ok (decimal found.0) ∷ runs s side (decimal found.0) (behind_colon found.1 found.2)
by_colon s side t ts None = spoken s side t ts (named (team_of s side) Anyone t ts)

-- the token begins no line and is no number
abbrev pub may_name : Token → Bool
may_name t = if is_line_word t || is_digit_first t then false else true

unfoldable pub by_bowler : Sheet → Side → Token → List Token → List Word
by_bowler s side t ts =
    if may_name t then by_colon s side t ts (colon_name (team_of s side) (plus (Ok []) (Ok t)) ts)
    else as_typed (t ∷ ts)

unfoldable pub by_same_bowler : Sheet → Point → Token → List Token → List Word
by_same_bowler s at t ts =
    if begins_delivery t ts
    then Ok (codes "ball") ∷ same_bowler at.bowler ∷ runs_from s (opponent at.batting) (known (same_bowler at.bowler)) t ts
    else by_bowler s (opponent at.batting) t ts

-- a letter that means two things is refused, whoever bowls
unfoldable pub by_letter : Sheet → Point → Token → List Token → List Word
by_letter s at t ts = unless_two (two_meanings t) (by_same_bowler s at t ts)

-- a delivery whose bowler is named before a colon, with `more` after the colon
abbrev pub delivery_by : Sheet → Side → Word → List Token → List Word
delivery_by s side bowler ts = bowler ∷ runs s side (known bowler) ts

unfoldable pub colon_delivery : Sheet → Side → Token → Token → List Token → List Word
colon_delivery s side name more ts =
    Ok (codes "ball") ∷ delivery_by s side (player s side Anyone name []).0 (behind_colon more ts)

-- a delivery that doesn't begin with `ball`, or any other line
unfoldable pub unnamed : Sheet → Point → Token → List Token → List Word
unnamed s at t ts =
    if names_bowler t then colon_delivery s (opponent at.batting) (before_first is_colon t) (after_first is_colon t) ts
    else by_letter s at t ts

-- ---- a whole line

abbrev pub batter_first : Sheet → Side → Among → List Token → List Word
batter_first s side among [] = []
batter_first s side among (t ∷ ts) = (player s side among t ts).0 ∷ as_typed (player s side among t ts).1

abbrev pub bowler_first : Sheet → Side → List Token → List Word
bowler_first s side [] = []
bowler_first s side (t ∷ ts) = delivery_by s side (player s side Anyone t ts).0 (player s side Anyone t ts).1

-- a batter who leaves is in, unless he is timed out
abbrev pub leavers : Token → Among → Among
leavers t among = if bytes_eq t (codes "timedout") then Anyone else among

-- how a batter leaves, in two words or in one
abbrev pub left_by : Sheet → Side → Among → Option Token → Token → List Token → List Word
left_by s side among (Some how) t ts = Ok how ∷ batter_first s side (leavers how among) (behind_one ts)
left_by s side among None t ts = Ok t ∷ batter_first s side (leavers t among) ts

abbrev pub left_so : Sheet → Side → Among → List Token → List Word
left_so s side among [] = []
left_so s side among (t ∷ ts) = left_by s side among (leave_apart t ts) t ts

-- a line other than `fix` and `late`, by who bowls, bats and is in where it belongs
unfoldable pub item_from : Sheet → Point → Among → Token → List Token → List Word
item_from s at among t ts =
    if bytes_eq t (codes "/") then Ok (codes "over") ∷ as_typed ts
    else if bytes_eq t (codes "in") then Ok t ∷ batter_first s at.batting Anyone ts
    else if bytes_eq t (codes "gone") then Ok t ∷ left_so s at.batting among ts
    else if bytes_eq t (codes "ball") then Ok t ∷ bowler_first s (opponent at.batting) ts
    else if is_leave t ts then Ok (codes "gone") ∷ left_so s at.batting among (t ∷ ts)
    else unnamed s at t ts

abbrev pub item_at : Sheet → List Entry → Belongs → Token → List Token → List Word
item_at s book belongs t ts = item_from s (point_at book belongs) (batters_at book belongs) t ts

abbrev pub item : Sheet → List Entry → Belongs → List Token → List Word
item s book belongs [] = []
item s book belongs (t ∷ ts) = item_at s book belongs t ts

-- where a `late` or a `fix` line of place p belongs
abbrev pub belonging : Bool → ℕ → Belongs
belonging is_late p = if is_late then After p else At p

-- a place and the line that belongs there, or the words as typed if the token is no place
abbrev pub at_place : Sheet → List Entry → Bool → Token → List Token → Option ℕ → List Word
at_place s book is_late t ts None = as_typed (t ∷ ts)
at_place s book is_late t ts (Some p) = Ok t ∷ item s book (belonging is_late p) ts

-- the place of a delivery that is named by its over and its number there, as `9.2`, and the line that belongs there
abbrev pub at_ball : Sheet → List Entry → Bool → Token → List Token → Option ℕ → List Word
at_ball s book is_late t ts None = Err (no_such_ball t) ∷ []
at_ball s book is_late t ts (Some p) = Ok (decimal p) ∷ item s book (belonging is_late p) ts

abbrev pub ball_or_place : Sheet → List Entry → Bool → Token → List Token → Option Named → List Word
ball_or_place s book is_late t ts None = at_place s book is_late t ts (found_number 0 8191 t)
ball_or_place s book is_late t ts (Some named) = at_ball s book is_late t ts (place_of book named)

abbrev pub placed : Sheet → List Entry → Bool → List Token → List Word
placed s book is_late [] = []
placed s book is_late (t ∷ ts) = ball_or_place s book is_late t ts (named_ball t)

-- `undo`: the line that makes the entry at this place void
abbrev pub undoing : Option ℕ → List Token → List Word
undoing None ts = Err NothingStands ∷ []
undoing (Some p) ts = Ok (codes "fix") ∷ Ok (decimal p) ∷ Ok (codes "void") ∷ as_typed ts

abbrev pub words_in_full : Sheet → List Entry → List Token → List Word
words_in_full s book [] = []
words_in_full s book (t ∷ ts) =
    if is_one_of (codes "fix" ∷ codes "late" ∷ []) t then Ok t ∷ placed s book (bytes_eq t (codes "late")) ts
    else if bytes_eq t (codes "undo") then undoing (last_standing book) ts
    else item_at s book Last t ts

-- ---- an unknown word

-- the line is refused for an unknown word
abbrev pub lacks_word : Result Entry LineFault → Bool
lacks_word (Err NoWord) = true
lacks_word read = false

abbrev pub is_cut_there : Result (List ℕ) Reason → Bool
is_cut_there (Ok text) = lacks_word (line_answer text)
is_cut_there (Err reason) = false

-- the first word at which the line, if it ended there, would be refused for an unknown word
abbrev pub word_from : Result (List ℕ) Reason → List Token → Option Token
word_from front [] = None
word_from front (t ∷ ts) = if is_cut_there (plus front (Ok t)) then Some t else word_from (plus front (Ok t)) ts

abbrev pub or_word : List ℕ → Option Token → Result (List ℕ) Reason
or_word text None = Ok text
or_word text (Some t) = Err (unknown_word t)

-- the word after one of a desk's words
abbrev pub asked_for : List Token → Option Token
asked_for (t ∷ u ∷ ts) = if is_desk_word t then Some u else None
asked_for _ = None

-- the unknown word for which a text is refused, if there is one
abbrev pub lacking : List ℕ → Option Token
lacking text =
    if lacks_word (line_answer text) then or_else (asked_for (tokens text)) (word_from (Ok []) (tokens text)) else None

-- a text in full, or the unknown word for which it is refused
abbrev pub with_words : Result (List ℕ) Reason → Result (List ℕ) Reason
with_words (Err reason) = Err reason
with_words (Ok text) = or_word text (lacking text)

-- ---- a line

-- a fault of the line as a whole, not of one of its words
abbrev pub is_of_line : LineFault → Bool
is_of_line TooLong = true
is_of_line Spaces = true
is_of_line _ = false

-- an entry's line is its own full form; a line that is too long, or isn't tokens with single spaces between them, has no
-- full form; any other line is put in full word by word
abbrev pub by_tokens : Sheet → List Entry → List ℕ → Result (List ℕ) Reason
by_tokens s book line = with_words (joined (words_in_full s book (tokens line)))

-- what a line with this unknown word comes to in lower case; a word that is unknown there too stays as typed
abbrev pub or_unknown : Token → Result (List ℕ) Reason → Result (List ℕ) Reason
or_unknown t (Err (UnknownWord lower)) = Err (UnknownWord t)
or_unknown t full = full

-- a line with an unknown word is read in lower case, but no `undo`: that is typed in small letters alone
abbrev pub or_lower : Result (List ℕ) Reason → Result (List ℕ) Reason → Result (List ℕ) Reason
or_lower (Err (UnknownWord t)) lower =
    if is_same t (codes "undo") then Err (UnknownWord t) else or_unknown t lower
or_lower full lower = full

abbrev pub by_word : Sheet → List Entry → List ℕ → Result (List ℕ) Reason
by_word s book line = or_lower (by_tokens s book line) (by_tokens s book (str_to_ascii_lowercase line))

abbrev pub put_in_full : Sheet → List Entry → List ℕ → Result Entry LineFault → Result (List ℕ) Reason
put_in_full s book line (Ok e) = Ok line
put_in_full s book line (Err f) = if is_of_line f then Err (Fault f) else by_word s book line

abbrev pub by_answer : Sheet → List Entry → List ℕ → Result (List ℕ) Reason
by_answer s book line = put_in_full s book line (line_answer line)

-- a line in full, or what isn't clear in it; blanks at its end don't count
unfoldable pub in_full : Sheet → List Entry → List ℕ → Result (List ℕ) Reason
in_full s book line = by_answer s book (trimmed line)

-- the entry that a line means: the one read from its full form
abbrev pub or_fault : Result Entry LineFault → Result Entry Reason
or_fault (Ok e) = Ok e
or_fault (Err f) = Err (Fault f)

abbrev pub read_full : Result (List ℕ) Reason → Result Entry Reason
read_full (Ok full) = or_fault (line_answer full)
read_full (Err reason) = Err reason

abbrev pub entry_in_full : Sheet → List Entry → List ℕ → Result Entry Reason
entry_in_full s book line = read_full (in_full s book line)
