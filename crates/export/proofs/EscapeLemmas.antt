-- The escape of a character that a terminal obeys is plain text, and is read as that character.
use Rattle.std.proofs.Common.{◌≡◌, ℕ, ◌+◌, ◌*◌, ◌/◌, ◌%◌, ◌<◌, true, List, [], ◌∷◌, ◌++◌, Some, arith, encode_utf8, lt-ltb}
use Rattle.std.proofs.lemmas.Bool.Decides.{nat_tests}
use Rattle.std.proofs.lemmas.Str.{digit_value-digit_char, encode_ascii}
use Rattle.std.specs.Char.{digit_char}
use Rattle.cards.specs.Sheet.{is_printable}
use Rattle.json.specs.Text.{content, plain, prepend, code_unit}
use Rattle.export.specs.Escapes.{IsPlain, is_obeyed, shown_char}

-- a hex digit is one byte, and plain text
pub digit_byte : (d : ℕ) → d < 16 → encode_utf8 (digit_char d) ≡ digit_char d ∷ []
digit_byte d h = encode_ascii (digit_char d) (grind (arith, nat_tests))

printable_digit : (d : ℕ) → d < 16 → is_printable (digit_char d) ≡ true
printable_digit d h = grind (arith, nat_tests)

obeyed_below : (c : ℕ) → is_obeyed c ≡ true → c < 0x2070
obeyed_below c h = grind (arith, nat_tests)

-- four hex digits are read as their number
read_digits : (a b c d : ℕ) → a < 16 → b < 16 → c < 16 → d < 16
    → code_unit (digit_char a) (digit_char b) (digit_char c) (digit_char d) ≡ Some (a * 4096 + b * 256 + c * 16 + d)
unfolding code_unit
read_digits a b c d p q r s =
    rw (
      digit_value-digit_char a (omega arith),
      digit_value-digit_char b (omega arith),
      digit_value-digit_char c (omega arith),
      digit_value-digit_char d (omega arith),
      lt-ltb a 16 p,
      lt-ltb b 16 q,
      lt-ltb c 16 r,
      lt-ltb d 16 s,
    )

-- an escape with four digits is read as the character
read_unit : (a b c d u : ℕ) (more : List ℕ) → code_unit a b c d ≡ Some u → u < 0xd800
    → content plain (92 ∷ 117 ∷ a ∷ b ∷ c ∷ d ∷ more) ≡ prepend (encode_utf8 u) (content plain more)
unfolding content
read_unit a b c d u more is low = grind (arith, nat_tests)

whole : (c : ℕ) → c < 0x2070 → c / 4096 % 16 * 4096 + c / 256 % 16 * 256 + c / 16 % 16 * 16 + c % 16 ≡ c
whole c h = omega arith

pub read_back : (c : ℕ) (more : List ℕ) → is_obeyed c ≡ true → content plain (shown_char c ++ more) ≡ prepend (encode_utf8 c) (content plain more)
read_back c more h =
    let low = obeyed_below c h in
    let unit = read_digits (c / 4096 % 16) (c / 256 % 16) (c / 16 % 16) (c % 16) (omega arith) (omega arith) (omega arith) (omega arith) in
    rw h (read_unit _ _ _ _ c more (rw (whole c low) at unit) (omega arith))

pub plain_text : (c : ℕ) → is_obeyed c ≡ true → IsPlain c
plain_text c h =
    grind (arith, h, printable_digit)
