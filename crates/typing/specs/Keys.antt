-- The keys in a terminal's bytes.
use Rattle.std.specs.Prelude.{◌==◌, ◌&&◌, ◌||◌, ℕ, nat_lt, nat_le, if◌then◌else◌, Option, Some, None}
use Rattle.typing.specs.declared.{key.Key.Key, reading.Reading.Reading}
use Rattle.typing.specs.declared.key.Key.TheVariants.{Sign, Erase, Delete, EraseWord, EraseLine, Front, End, Left, Right, Earlier, Later, Enter, Stop}
use Rattle.typing.specs.declared.reading.Reading.TheVariants.{Begun, Escape, Opened, Three, Unknown}

-- Ctrl-A, Ctrl-D, Ctrl-E, Ctrl-H, Enter (line feed or carriage return), Ctrl-U and Ctrl-W
abbrev pub control : ℕ → Option Key
control b =
    if b == 1 then Some Front
    else if b == 4 then Some Stop
    else if b == 5 then Some End
    else if b == 8 then Some Erase
    else if b == 10 || b == 13 then Some Enter
    else if b == 21 then Some EraseLine
    else if b == 23 then Some EraseWord
    else None

-- the arrows, Home and End: the letter after `ESC [` or `ESC O`
abbrev pub arrow : ℕ → Option Key
arrow b =
    if b == 65 then Some Earlier
    else if b == 66 then Some Later
    else if b == 67 then Some Right
    else if b == 68 then Some Left
    else if b == 72 then Some Front
    else if b == 70 then Some End
    else None

-- a byte of 32 or more by itself: a character or Backspace
abbrev pub alone : ℕ → Option Key
alone b =
    if b == 127 then Some Erase
    else if nat_lt b 128 then Some (Sign b)
    else None

-- the key of a byte of 32 or more, by what was read before
abbrev pub key_behind : Reading → ℕ → Option Key
key_behind Begun b = alone b
key_behind Escape b = None
key_behind Opened b = arrow b
key_behind Three b = if b == 126 then Some Delete else None
key_behind Unknown b = None

-- the key that a byte completes, if any
abbrev pub key_of : Reading → ℕ → Option Key
key_of reading b = if nat_lt b 32 then control b else key_behind reading b

-- a sequence of no known key continues with a digit or a punctuation character (32 to 63), and ends with any other byte
abbrev pub unknown_behind : ℕ → Reading
unknown_behind b = if nat_le 32 b && nat_lt b 64 then Unknown else Begun

-- the reading after a byte other than Escape
abbrev pub read_behind : Reading → ℕ → Reading
read_behind Begun b = Begun
read_behind Escape b = if b == 91 || b == 79 then Opened else Begun
read_behind Opened b = if b == 51 then Three else unknown_behind b
read_behind Three b = unknown_behind b
read_behind Unknown b = unknown_behind b

-- the reading after a byte
abbrev pub reading_behind : Reading → ℕ → Reading
reading_behind reading b = if b == 27 then Escape else read_behind reading b
