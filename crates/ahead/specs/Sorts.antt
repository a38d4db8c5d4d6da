-- What a typed line means for the held lines.
use Rattle.std.specs.Prelude.{◌||◌, ℕ, Bool, true, false, List, Option, None, Some, bytes_eq, codes, if◌then◌else◌, take}
use Rattle.screen.specs.Words.{is_end, trimmed, word_of}
use Rattle.screen.specs.declared.word.Word.{Word}
use Rattle.ahead.specs.declared.taking.Sort.{Sort}

abbrev pub says_again : List ℕ → Bool
says_again line = bytes_eq line (codes "again") || bytes_eq (codes "again ") (take 6 line)

-- the sort of a word that writes no entry, or of any other line
abbrev pub by_word : Option Word → Sort
by_word None = Sort.Entry
by_word (Some Word.Where) = Sort.Lists
by_word (Some word) = Sort.Asks

abbrev pub sort_of : List ℕ → Sort
sort_of line =
    if bytes_eq (trimmed line) (codes "undo") then Sort.Undo
    else if is_end line then Sort.Quit
    else if says_again line then Sort.Again
    else by_word (word_of line)

-- the desk may cast a line of this sort
abbrev pub casts : Sort → Bool
casts Sort.Quit = false
casts Sort.Lists = false
casts Sort.Asks = false
casts sort = true

abbrev pub may_cast : List ℕ → Bool
may_cast line = casts (sort_of line)

-- a line of this sort may be an entry's: only such a line is held
abbrev pub is_entrys : Sort → Bool
is_entrys Sort.Entry = true
is_entrys sort = false

abbrev pub is_entry : List ℕ → Bool
is_entry line = is_entrys (sort_of line)

-- a line of this sort takes a line back
abbrev pub takes_back : Sort → Bool
takes_back Sort.Undo = true
takes_back sort = false

abbrev pub is_undo : List ℕ → Bool
is_undo line = takes_back (sort_of line)
