-- The text after a correction: a row for each of the first six changes, and how many more there are.
use Rattle.std.specs.Prelude.{ℕ, ◌-◌, nat_le, if◌then◌else◌, List, [], ◌++◌, length, take, codes, decimal}
use Rattle.notation.specs.declared.entry.Entry.{Entry}
use Rattle.corrections.specs.CleanList.{history_of}
use Rattle.cards.specs.Sheet.{Sheet}
use Rattle.cards.specs.Columns.{lines_for}
use Rattle.changes.specs.Before.{before, is_correction, last_of}
use Rattle.changes.specs.Stage.{Stage}
use Rattle.changes.specs.Changes.{changes}
use Rattle.changes.specs.Rows.{row}

abbrev pub most : ℕ
most = 6

abbrev pub more_text : ℕ → List ℕ
more_text n = if nat_le n most then [] else codes ".. and " ++ decimal (n - most) ++ codes " more: card\n"

unfoldable pub changes_text : Sheet → Stage → Stage → List ℕ
changes_text s was now =
    lines_for (row s was now) (take most (changes was now)) ++ more_text (length (changes was now))

-- the changes by the last entry of a book with n innings a side, if that entry is a `fix` or a `late`
abbrev pub last_changes : Sheet → ℕ → List Entry → List ℕ
last_changes s n book =
    if is_correction (last_of book) then
    changes_text s (record { innings_a_side = n; history = history_of (before book) })
    (record { innings_a_side = n; history = history_of book })
    else []
