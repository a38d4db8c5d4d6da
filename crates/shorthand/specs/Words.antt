-- What scorers type for the words of lines, and what they plainly mean by it.
use Rattle.std.specs.Prelude.{ℕ, ◌-◌, Bool, false, if◌then◌else◌, ◌||◌, ◌&&◌, Option, Some, None, List, [], ◌∷◌, codes, length, take, map, is_some, unwrap_or}
use Rattle.std.specs.Char.{is_ascii_whitespace}
use Rattle.std.specs.List.{list_any, suffix_len}
use Rattle.std.specs.Str.{bytes_eq}
use Rattle.notation.specs.Written.{Token, how_text, all_hows}
use Rattle.shorthand.specs.declared.unclear.{Letter.Letter, Unaided.Unaided}
use Rattle.shorthand.specs.declared.unclear.Unaided.TheVariants.{Bowled, Lbw}
use Rattle.shorthand.specs.declared.unclear.Letter.TheVariants.{B, W}

-- a line without the blanks at its end
abbrev pub trimmed : List ℕ → List ℕ
trimmed line = take (length line - suffix_len is_ascii_whitespace line) line

abbrev pub is_one_of : List Token → Token → Bool
is_one_of ws t = list_any (bytes_eq t) ws

-- the token's value in a table
abbrev pub in_row : List (Token × Token) → Token → Option Token
in_row [] t = None
in_row (row ∷ rows) t = if bytes_eq t row.0 then Some row.1 else in_row rows t

-- the next token is this word
abbrev pub has_next : Token → List Token → Bool
has_next w [] = false
has_next w (t ∷ ts) = bytes_eq t w

-- all tokens but the first
abbrev pub behind_one : List Token → List Token
behind_one [] = []
behind_one (t ∷ ts) = ts

-- the tokens begin with these two words
abbrev pub are_two : Token → Token → Token → List Token → Bool
are_two w v t ts = bytes_eq t w && has_next v ts

-- ---- ways of being out

-- the short word, and the way that it stands for
abbrev pub ways : List (Token × Token)
ways =
    (codes "c", codes "caught") ∷ (codes "ct", codes "caught") ∷ (codes "c&b", codes "caught")
    ∷ (codes "st", codes "stumped") ∷ (codes "ro", codes "runout") ∷ []

-- a way of being out, by its own word or a short one
abbrev pub way_of : Token → Token
way_of t = unwrap_or (in_row ways t) t

abbrev pub is_how : Token → Bool
is_how t = is_one_of (map how_text all_hows) (way_of t)

-- `run out` in two words
abbrev pub is_run_out : Token → List Token → Bool
is_run_out t ts = are_two (codes "run") (codes "out") t ts

-- `hit wicket` in two words
abbrev pub is_hit_wicket : Token → List Token → Bool
is_hit_wicket t ts = are_two (codes "hit") (codes "wicket") t ts

-- `& b`, as in `c & b`: the bowler caught it
abbrev pub is_and_bowled : Token → Token → List Token → Bool
is_and_bowled how t ts =
    bytes_eq how (codes "caught")
    && (is_one_of (codes "&" ∷ codes "and" ∷ []) t && (has_next (codes "b") ts || has_next (codes "bowled") ts))

-- the ways in which no fielder has a part; a player named after them is rather the bowler
abbrev pub without_fielder : Token → Option Unaided
without_fielder how =
    if bytes_eq how (codes "bowled") then Some Bowled
    else if bytes_eq how (codes "lbw") then Some Lbw
    else None

-- ---- ways of leaving between deliveries

-- the way that two words say
abbrev pub leave_apart : Token → List Token → Option Token
leave_apart t ts =
    if are_two (codes "retired") (codes "hurt") t ts then Some (codes "retiredhurt")
    else if are_two (codes "retired") (codes "out") t ts then Some (codes "retiredout")
    else if are_two (codes "timed") (codes "out") t ts then Some (codes "timedout")
    else None

-- the tokens begin with such a way, in one word or two
abbrev pub is_leave : Token → List Token → Bool
is_leave t ts =
    is_one_of (codes "retiredhurt" ∷ codes "retiredout" ∷ codes "timedout" ∷ []) t || is_some (leave_apart t ts)

-- ---- runs

-- a delivery's kind and runs in one word; of wides and no balls the one run is that of the delivery itself
abbrev pub run_words : List (Token × Token × Token)
run_words =
    (codes "dot", codes "bat", codes "0") ∷ (codes "four", codes "bat", codes "0 four")
    ∷ (codes "six", codes "bat", codes "0 six")
    ∷ (codes "1b", codes "bye", codes "1") ∷ (codes "2b", codes "bye", codes "2") ∷ (codes "3b", codes "bye", codes "3")
    ∷ (codes "4b", codes "bye", codes "0 four")
    ∷ (codes "1lb", codes "leg", codes "1") ∷ (codes "2lb", codes "leg", codes "2") ∷ (codes "3lb", codes "leg", codes "3")
    ∷ (codes "4lb", codes "leg", codes "0 four")
    ∷ (codes "1wd", codes "wide", codes "0") ∷ (codes "1nb", codes "nb", codes "0") ∷ []

abbrev pub among_words : List (Token × Token × Token) → Token → Option (Token × Token)
among_words [] t = None
among_words (row ∷ rows) t = if bytes_eq t row.0 then Some (row.1, row.2) else among_words rows t

-- the kind and the runs that one word says
abbrev pub said_runs : Token → Option (Token × Token)
said_runs t = among_words run_words t

-- `no ball` in two words
abbrev pub is_no_ball : Token → List Token → Bool
is_no_ball t ts = are_two (codes "no") (codes "ball") t ts

-- ---- letters that mean two things to scorers: `b` byes or bowled, `w` a Wide or a wicket
abbrev pub two_meanings : Token → Option Letter
two_meanings t = if bytes_eq t (codes "b") then Some B else if bytes_eq t (codes "w") then Some W else None

-- a desk's words that write no entry
abbrev pub desk_words : List Token
desk_words =
    codes "list" ∷ codes "score" ∷ codes "card" ∷ codes "players" ∷ codes "bowlers" ∷ codes "who" ∷ codes "help"
    ∷ codes "quit" ∷ codes "exit" ∷ []

abbrev pub is_desk_word : Token → Bool
is_desk_word t = is_one_of desk_words t

-- the words that begin a line
abbrev pub line_words : List Token
line_words =
    codes "innings" ∷ codes "in" ∷ codes "ball" ∷ codes "gone" ∷ codes "over" ∷ codes "penalty" ∷ codes "swap"
    ∷ codes "end" ∷ codes "close" ∷ codes "void" ∷ codes "fix" ∷ codes "late" ∷ codes "again" ∷ []

-- neither kind of word is a bowler's name without a colon
abbrev pub is_line_word : Token → Bool
is_line_word t = is_one_of line_words t || is_desk_word t
