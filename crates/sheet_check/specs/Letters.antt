-- How a text of a sheet is shown in a fault, and which of its letters aren't plain.
use Rattle.std.specs.Prelude.{ℕ, Bool, ◌||◌, if◌then◌else◌, List, ◌++◌, codes, chars, encode_utf8, flat_map}
use Rattle.std.specs.Int.{is_in_range}
use Rattle.cards.specs.Sheet.{is_printable}

-- a letter controls a terminal, or changes the direction of the line in which it is shown or breaks that line: controls;
-- zero-width and directional marks; line and paragraph ends, embeddings and overrides; joiners and isolates
abbrev pub is_obeyed : ℕ → Bool
is_obeyed c =
    (((is_in_range 0 0x1f c || is_in_range 0x7f 0x9f c) || is_in_range 0x200b 0x200f c) || is_in_range 0x2028 0x202e c) || is_in_range 0x2060 0x206f c

-- a letter as it is shown
abbrev pub shown_letter : ℕ → List ℕ
shown_letter c = if is_obeyed c then codes "?" else encode_utf8 c

-- a text as it is shown, without quotes; and in quotes
abbrev pub shown : List ℕ → List ℕ
shown text = flat_map shown_letter (chars text)

abbrev pub quoted : List ℕ → List ℕ
quoted text = codes "\"" ++ shown text ++ codes "\""

-- a letter that isn't plain, followed by a space; nothing for a plain letter
abbrev pub odd_letter : ℕ → List ℕ
odd_letter c = if is_printable c then codes "" else if is_obeyed c then codes "a control character " else encode_utf8 c ++ codes " "

-- the letters of a text that aren't plain
abbrev pub odd_letters : List ℕ → List ℕ
odd_letters text = flat_map odd_letter (chars text)
