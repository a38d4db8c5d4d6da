-- What became of the rows that were written to a screen, and what a stream has taken.
use Rattle.std.specs.Prelude.{ℕ, Bool, true, false, ◌&&◌, ◌||◌, ◌==◌, nat_le, if◌then◌else◌, List, [], ◌∷◌, ◌++◌, map, take, drop, codes}
use Rattle.machine.specs.declared.row_log.{RowLog.RowLog, RowLog.Empty, RowLog.Shown', RowLog.LeftOut', TakenLog.TakenLog}
use Rattle.machine.specs.declared.row_log.TakenLog as taken

-- a newline, or printable ASCII, which no terminal obeys
abbrev pub is_plain : ℕ → Bool
is_plain byte = byte == 10 || (nat_le 32 byte && nat_le byte 126)

-- a byte as it is shown: one that isn't plain is a question mark
abbrev pub plain : ℕ → ℕ
plain byte = if is_plain byte then byte else 63

-- no bytes, or whole rows: the last byte ends a row
abbrev pub ends_row : List ℕ → Bool
ends_row [] = true
ends_row (x ∷ []) = x == 10
ends_row (x ∷ (y ∷ rest)) = ends_row (y ∷ rest)

-- all rows, shown or left out
abbrev pub written_in : RowLog → List ℕ
written_in Empty = []
written_in (Shown' marker before bytes count) = written_in before ++ take count.value bytes.value.items
written_in (LeftOut' marker before bytes count) = written_in before ++ take count.value bytes.value.items

-- the last rows are left out
abbrev pub lacks_last : RowLog → Bool
lacks_last (LeftOut' marker before bytes count) = true
lacks_last rows = false

-- the row that replaces left-out rows
abbrev pub points : List ℕ
points = codes "..\n"

-- the shown rows, each byte plain, with one row in place of each run of left-out rows
abbrev pub shown_in : RowLog → List ℕ
shown_in Empty = []
shown_in (Shown' marker before bytes count) = shown_in before ++ map plain (take count.value bytes.value.items)
shown_in (LeftOut' marker before bytes count) =
    if lacks_last before then shown_in before else shown_in before ++ points

-- rows are shown or left out whole
abbrev pub are_whole : RowLog → Bool
are_whole Empty = true
are_whole (Shown' marker before bytes count) = are_whole before && ends_row (take count.value bytes.value.items)
are_whole (LeftOut' marker before bytes count) = are_whole before && ends_row (take count.value bytes.value.items)

-- what a stream has taken
abbrev pub bytes_in : TakenLog → List ℕ
bytes_in taken.Empty = []
bytes_in (taken.More' marker before bytes from count) = bytes_in before ++ take count.value (drop from.value bytes.value.items)
