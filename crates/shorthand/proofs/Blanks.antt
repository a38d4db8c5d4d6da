-- No entry's line ends in a blank.
use Rattle.std.proofs.lemmas.Grind.{common_steps}
use Rattle.std.proofs.Common.{◌≡◌, ◌&&◌, ◌-◌, ◌<◌, ℕ, Bool, true, false, List, [], ◌∷◌, length, get_or, arith, take_all}
use Rattle.std.proofs.lemmas.Bool.Decides.{nat_tests}
use Rattle.std.proofs.lemmas.List.Sums.{suffix_len_is}
use Rattle.std.specs.Char.{is_ascii_whitespace}
use Rattle.std.specs.List.{list_all, suffix_len}
use Rattle.notation.specs.Written.{Token, tokens, is_visible, is_token, is_spaced}
use Rattle.shorthand.specs.Words.{trimmed}

-- tokens, the first of which may lack some of its first bytes
abbrev go_on : List Token → Bool
go_on [] = true
go_on (w ∷ ws) = list_all is_visible w && list_all is_token ws

whole : (ws : List Token) → list_all is_token ws ≡ true → go_on ws ≡ true
whole ws h = grind (arith, common_steps)

behind : (b : ℕ) (bs : List ℕ) → go_on (tokens (b ∷ bs)) ≡ true → go_on (tokens bs) ≡ true
behind b bs h = grind (arith, common_steps, whole (tokens bs))

last_stays : (b : ℕ) (bs : List ℕ) → go_on (tokens (b ∷ bs)) ≡ true → is_ascii_whitespace (get_or (b ∷ bs) (length bs) 0) ≡ false
last_stays b [] h = grind (arith, nat_tests)
last_stays b (c ∷ cs) h = last_stays c cs (behind b (c ∷ cs) h)

at_end : (line : List ℕ) → is_spaced line ≡ true → 0 < length line → is_ascii_whitespace (get_or line (length line - 1) 0) ≡ false
at_end [] h some = absurd (omega arith)
at_end (b ∷ bs) h some =
    let last : length (b ∷ bs) - 1 ≡ length bs = omega arith in rw last (last_stays b bs (whole (tokens (b ∷ bs)) h))

pub untrimmed : (line : List ℕ) → is_spaced line ≡ true → trimmed line ≡ line
untrimmed line h =
    let none = suffix_len_is is_ascii_whitespace line (length line) 0 (omega arith) (λ k l m. absurd (omega arith)) (at_end line h) in
    take_all (length line - suffix_len is_ascii_whitespace line) line (omega (arith, none))
