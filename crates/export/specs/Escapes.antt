-- How an export writes a character that a terminal obeys, or that turns or breaks the line in which it is shown: as its JSON
-- escape, which a reader takes for the character. Such a character stands only in the strings of a JSON text.
use Rattle.std.specs.Prelude.{◌≡◌, ℕ, ◌/◌, ◌%◌, Bool, true, ◌||◌, if◌then◌else◌, List, [], ◌∷◌, ◌++◌, Some, codes, chars, encode_utf8, flat_map}
use Rattle.std.specs.Char.{digit_char}
use Rattle.std.specs.Int.{is_in_range}
use Rattle.std.specs.List.{list_all}
use Rattle.cards.specs.Sheet.{is_printable}
use Rattle.json.specs.Print.{escape}
use Rattle.json.specs.Text.{content, plain}

-- the controls from DEL on; zero-width characters and direction marks; line and paragraph separators, and the direction
-- embeddings and overrides; word joiners, direction isolates, and other format characters
abbrev pub is_obeyed : ℕ → Bool
is_obeyed c =
    ((is_in_range 0x7f 0x9f c || is_in_range 0x200b 0x200f c) || is_in_range 0x2028 0x202e c) || is_in_range 0x2060 0x206f c

-- the escape of a character below 65,536, by its four hex digits
abbrev pub escape_of : ℕ → List ℕ
escape_of c =
    codes "\\u" ++ digit_char (c / 4096 % 16) ∷ digit_char (c / 256 % 16) ∷ digit_char (c / 16 % 16) ∷ digit_char (c % 16) ∷ []

abbrev pub shown_char : ℕ → List ℕ
shown_char c = if is_obeyed c then escape_of c else encode_utf8 c

-- a text with the obeyed characters escaped
abbrev pub shown : List ℕ → List ℕ
shown text = flat_map shown_char (chars text)

-- a character is written as plain text
abbrev pub IsPlain : ℕ → Type 0
IsPlain c = list_all is_printable (shown_char c) ≡ true

-- a string is read as it was before escaping, whatever follows its closing quote
abbrev pub IsReadBack : List ℕ → Type 0
IsReadBack s = (more : List ℕ) → content plain (shown (escape s ++ (codes "\"" ++ more))) ≡ Some s
