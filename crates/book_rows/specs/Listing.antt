-- Entries of a book, each with the place of its correction.
use Rattle.std.specs.Prelude.{ℕ, ◌+◌, ◌-◌, ◌==◌, nat_le, nat_lt, if◌then◌else◌, List, [], ◌∷◌, ◌++◌, Option, Some, None, length, drop, take, codes, decimal}
use Rattle.notation.specs.declared.entry.Entry.{Entry}
use Rattle.corrections.specs.Corrected.{corrected_at}
use Rattle.cards.specs.Columns.{lines_from}
use Rattle.cards.specs.Page.{placed_entry}

abbrev pub correction_note : Option ℕ → List ℕ
correction_note None = []
correction_note (Some k) = codes " (corrected at " ++ decimal k ++ codes ")"

-- the row of a book's entry, as it was penned
abbrev pub entry_line : List Entry → ℕ → Entry → List ℕ
entry_line book place e = placed_entry place e ++ correction_note (corrected_at book place) ++ codes "\n"

-- at most twenty entries are shown at once, from the first place on
abbrev pub stop_of : ℕ → ℕ → ℕ
stop_of first end = if nat_le end (first + 20) then end else first + 20

-- the line to type for the entries that are left, if any are
abbrev pub range_word : ℕ → ℕ → List ℕ
range_word first last = codes "more: list " ++ decimal first ++ codes " " ++ decimal last ++ codes "\n"

abbrev pub go_on : ℕ → ℕ → List ℕ
go_on stop end = if nat_lt stop end then range_word stop (end - 1) else []

abbrev pub entries_between : ℕ → ℕ → List Entry → List ℕ
entries_between first stop book = lines_from (entry_line book) first (drop first (take stop book))

-- the entries from place `first` up to and without `end`, at most twenty
abbrev pub shown : ℕ → ℕ → List Entry → List ℕ
shown first end book = entries_between first (stop_of first end) book ++ go_on (stop_of first end) end

-- the last entries of a book, at most so many
abbrev pub listing : ℕ → List Entry → List ℕ
listing most book = shown (length book - most) (length book) book

-- the place after a range's last one, within the book
abbrev pub end_of : ℕ → List Entry → ℕ
end_of last book = if nat_lt last (length book) then last + 1 else length book

-- the entries from one place to another one
abbrev pub range : ℕ → ℕ → List Entry → List ℕ
range first last book =
    if nat_lt first (end_of last book) then shown first (end_of last book) book else codes "no such places\n"
