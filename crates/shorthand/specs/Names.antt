-- Players by number and by name. A text means a player, in either case of letters, if it is his whole name as shown; else if
-- it is the last word of his name alone; else if it begins a word of his name and of no other's in the team.
use Rattle.std.specs.Prelude.{ℕ, ◌==◌, Bool, true, false, ◌||◌, ◌&&◌, if◌then◌else◌, Option, Some, None, List, [], ◌∷◌, filter, take, length, decimal, nat_le, nat_lt, codes, Result, Ok, Err}
use Rattle.std.specs.Char.{is_ascii_digit}
use Rattle.std.specs.List.{list_any, position_or_len, before_first, after_first}
use Rattle.std.specs.Str.{bytes_eq, str_to_ascii_lowercase}
use Rattle.notation.specs.declared.entry.Side.{Side}
use Rattle.notation.specs.declared.fault.LineFault.TheVariants.{TooLong}
use Rattle.notation.specs.Written.{Token, tokens}
use Rattle.ball_laws.specs.Over.{numbers}
use Rattle.match_laws.specs.History.{or_else}
use Rattle.cards.specs.Sheet.{Sheet, Team, player_in, team_of}
use Rattle.shorthand.specs.declared.unclear.Unaided.{Unaided}
use Rattle.shorthand.specs.declared.names.{Among.Among, Fit.Fit, Found.Found}
use Rattle.shorthand.specs.declared.names.Among.TheVariants.{Anyone, AnEnd}
use Rattle.shorthand.specs.declared.names.Fit.TheVariants.{Whole, LastWord, Beginning}
use Rattle.shorthand.specs.declared.names.Found.TheVariants.{NoOne, One, Several}
use Rattle.shorthand.specs.Lines.{Reason, Fault, NoSuchPlayer, WhichPlayer, NoFielder, NoSuchBall, UnknownWord, Word, plus}

-- the same letters, in either case
abbrev pub is_same : Token → Token → Bool
is_same w t = bytes_eq (str_to_ascii_lowercase w) (str_to_ascii_lowercase t)

-- the word begins with the token
abbrev pub begins_with : Token → Token → Bool
begins_with w t = is_same (take (length t) w) t

-- the last of these words, of which w is the first, is the token
abbrev pub ends_in : Token → List Token → Token → Bool
ends_in w [] t = is_same w t
ends_in w (v ∷ vs) t = ends_in v vs t

abbrev pub is_last_of : List Token → Token → Bool
is_last_of [] t = false
is_last_of (w ∷ ws) t = ends_in w ws t

-- how a text fits a name: it is the name, its last word, or the beginning of one of its words
abbrev pub fits : Fit → List ℕ → Token → Bool
fits Whole name t = is_same name t
fits LastWord name t = is_last_of (tokens name) t
fits Beginning name t = list_any (λ w. begins_with w t) (tokens name)

-- whom a name may mean: anyone of the side, or the batters at these ends
abbrev pub is_at : Option ℕ → ℕ → Bool
is_at None n = false
is_at (Some m) n = m == n

abbrev pub is_among : Among → ℕ → Bool
is_among Anyone n = true
is_among (AnEnd ends) n = is_at ends.striker n || is_at ends.other n

abbrev pub suits : Among → Fit → Team → Token → ℕ → Bool
suits among fit team t n = is_among among n && fits fit (player_in team n) t

-- the players of a team, among these, whose names the text fits in this way
abbrev pub fitting : Among → Fit → Team → Token → List ℕ
fitting among fit team t = filter (λ n. suits among fit team t n) numbers

abbrev pub found_in : List ℕ → Found
found_in [] = NoOne
found_in (n ∷ []) = One n
found_in (n ∷ m ∷ ns) = Several

abbrev pub one_or_else : Found → Found → Found
one_or_else (One n) others = One n
one_or_else _ others = others

-- whom a word means: the player whose last word it is, else the one with a word that begins with it
abbrev pub meant : Among → Team → Token → Found
meant among team t = one_or_else (found_in (fitting among LastWord team t)) (found_in (fitting among Beginning team t))

abbrev pub meant_by : Team → Token → Found
meant_by team t = meant Anyone team t

-- if several are found, the one of the others if it is just one
abbrev pub among_several : Found → Found → Found
among_several Several (One n) = One n
among_several found others = found

-- ---- whole names, of one word or more

abbrev pub alone : Found → List Token → Option (ℕ × List Token)
alone (One n) ts = Some (n, ts)
alone _ ts = None

-- the one player with exactly this name, and the tokens after it
abbrev pub exactly : Team → Result (List ℕ) Reason → List Token → Option (ℕ × List Token)
exactly team (Ok name) ts = alone (found_in (fitting Anyone Whole team name)) ts
exactly team (Err reason) ts = None

-- the player named by the longest run of words from `front` on that is a whole name, and the tokens after it
abbrev pub whole_name : Team → Result (List ℕ) Reason → List Token → Option (ℕ × List Token)
whole_name team front [] = exactly team front []
whole_name team front (t ∷ ts) = or_else (whole_name team (plus front (Ok t)) ts) (exactly team front (t ∷ ts))

abbrev pub is_colon : ℕ → Bool
is_colon b = b == 58

-- the token has a bowler's name and a colon: `B:` alone, or before the outcome as in `10:4`
abbrev pub names_bowler : Token → Bool
names_bowler t = nat_lt (position_or_len is_colon t) (length t) && nat_lt 0 (length (before_first is_colon t))

abbrev pub with_token : Option (ℕ × List Token) → Token → Option (ℕ × Token × List Token)
with_token None t = None
with_token (Some found) t = Some (found.0, t, found.1)

-- the player whose whole name stands before the first colon, what follows the colon in its token, and the tokens after
abbrev pub colon_name : Team → Result (List ℕ) Reason → List Token → Option (ℕ × Token × List Token)
colon_name team front [] = None
colon_name team front (t ∷ ts) =
    if names_bowler t
    then with_token (exactly team (plus front (Ok (before_first is_colon t))) ts) (after_first is_colon t)
    else colon_name team (plus front (Ok t)) ts

abbrev pub named_or : Option (ℕ × List Token) → Found → List Token → Found × List Token
named_or (Some whole) found ts = (One whole.0, whole.1)
named_or None found ts = (found, ts)

-- whom the words from t on mean, and the tokens after them: the longest run that is a whole name, else t alone; if t means
-- several players, the one among these
abbrev pub named : Team → Among → Token → List Token → Found × List Token
named team among t ts =
    named_or (whole_name team (plus (Ok []) (Ok t)) ts) (among_several (meant_by team t) (meant among team t)) ts

-- a token that begins with a digit is a number, not a name
abbrev pub is_digit_first : Token → Bool
is_digit_first [] = false
is_digit_first (b ∷ bs) = is_ascii_digit b

-- why a name isn't clear; a name of more than 96 bytes makes the line too long
abbrev pub no_such_player : Token → Reason
no_such_player t = if nat_le (length t) 96 then NoSuchPlayer t else Fault TooLong

abbrev pub which_player : Side → Token → Reason
which_player side t = if nat_le (length t) 96 then WhichPlayer side t else Fault TooLong

abbrev pub no_fielder : Unaided → Token → Reason
no_fielder how t = if nat_le (length t) 96 then NoFielder how t else Fault TooLong

abbrev pub unknown_word : Token → Reason
unknown_word t = if nat_le (length t) 96 then UnknownWord t else Fault TooLong

abbrev pub no_such_ball : Token → Reason
no_such_ball t = if nat_le (length t) 96 then NoSuchBall t else Fault TooLong

abbrev pub number_word : Side → Token → Found → Word
number_word side t NoOne = Err (no_such_player t)
number_word side t (One n) = Ok (decimal n)
number_word side t Several = Err (which_player side t)

-- a player's number, given as a number, which stays as typed, or as a name; and the tokens after it
abbrev pub player : Sheet → Side → Among → Token → List Token → Word × List Token
player s side among t ts =
    if is_digit_first t then (Ok t, ts)
    else (number_word side t (named (team_of s side) among t ts).0, (named (team_of s side) among t ts).1)

-- a fielder's number; `sub` is any substitute
abbrev pub fielder : Sheet → Side → Token → List Token → Word × List Token
fielder s side t ts = if bytes_eq t (codes "sub") then (Ok (codes "12"), ts) else player s side Anyone t ts
