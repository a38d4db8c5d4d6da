-- The row about an unknown word: the word, and up to three words near it.
use Rattle.std.specs.Prelude.{ℕ, ◌-◌, ◌==◌, nat_le, Bool, true, false, ◌||◌, ◌&&◌, if◌then◌else◌, List, [], ◌∷◌, ◌++◌, codes, length, take}
use Rattle.std.specs.Char.{to_ascii_lowercase}
use Rattle.std.specs.Str.{bytes_eq, str_to_ascii_lowercase}
use Rattle.notation.specs.Written.{Token, tokens}

-- the words that a scorer may type, and a few of the marks
unfoldable pub vocabulary : List ℕ
vocabulary = codes "wide wd nb lbw bowled caught stumped runout hitwicket hittwice obstructing striker other crossed b1 lb1 wd1 nb1 bat bye leg nbbye nbleg four six dot overthrow short dead over in innings home away gone retiredhurt retiredout timedout penalty swap end allout nobatter declared forfeited overs close void fix late again undo list score card players bowlers who plan help quit exit"

-- the token and the word have the same letters, in either case
abbrev pub is_same : Token → Token → Bool
is_same t w = bytes_eq (str_to_ascii_lowercase t) (str_to_ascii_lowercase w)

-- the token is the word with its first two letters swapped, in either case
abbrev pub is_swapped : Token → Token → Bool
is_swapped (a ∷ c ∷ ts) (b ∷ d ∷ ws) =
    (to_ascii_lowercase a == d) && ((to_ascii_lowercase c == b) && is_same ts ws)
is_swapped _ _ = false

-- the token and the word differ by one slip in the first letter: replaced, added, left out, or swapped with the next
abbrev pub is_other_first : Token → Token → Token → Token → Bool
is_other_first ts t ws w = is_same ts ws || (is_same ts w || (is_same t ws || is_swapped t w))

-- the token is at most one such slip away from the word, in either case of letters
abbrev pub one_off : Token → Token → Bool
one_off [] ws = nat_le (length ws) 1
one_off (a ∷ ts) [] = length ts == 0
one_off (a ∷ ts) (b ∷ ws) =
    if to_ascii_lowercase a == b then one_off ts ws else is_other_first ts (a ∷ ts) ws (b ∷ ws)

-- the token has two letters or more, and the word begins with it
abbrev pub is_beginning : Token → Token → Bool
is_beginning t w = nat_le 2 (length t) && is_same t (take (length t) w)

abbrev pub is_near : Token → Token → Bool
is_near t w = if bytes_eq t w then false else one_off t w || is_beginning t w

-- the first of these words that are near the token, at most so many
abbrev pub nearest : ℕ → Token → List Token → List Token
nearest most t [] = []
nearest most t (w ∷ ws) =
    if most == 0 then []
    else if is_near t w then w ∷ nearest (most - 1) t ws
    else nearest most t ws

abbrev pub before_near : Bool → List ℕ
before_near true = codes "; near: "
before_near false = codes ", "

abbrev pub near_text : Bool → List Token → List ℕ
near_text is_first [] = []
near_text is_first (w ∷ ws) = before_near is_first ++ w ++ near_text false ws

abbrev pub unknown_text : Token → List ℕ
unknown_text t =
    codes "fault 2 UnknownWord: no word here is " ++ t ++ near_text true (nearest 3 t (tokens vocabulary)) ++ codes "\n"
