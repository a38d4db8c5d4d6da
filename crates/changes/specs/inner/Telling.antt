-- The rows of the changes in a list, after `told` changes before them.
use Rattle.std.specs.Prelude.{◌≡◌, ⊤, ℕ, ◌+◌, ◌&&◌, nat_lt, if◌then◌else◌, Bool, List, [], ◌∷◌, ◌++◌, Option, Result, Ok, Err}
use Rattle.std.specs.Io.KnownBytes.{Appends}
use Rattle.match_laws.specs.History.{one_if}
use Rattle.cards.specs.Sheet.{Sheet}
use Rattle.streams.specs.declared.watched.Watched.{Watched}
use Rattle.streams.specs.Watched.{stream_of}
use Rattle.changes.specs.declared.change.Change.{Change}
use Rattle.changes.specs.Stage.{Stage}
use Rattle.changes.specs.Changes.{differs}
use Rattle.changes.specs.Rows.{row}
use Rattle.changes.specs.Text.{most}

-- how many of these changes differ
abbrev pub number_of : (Change → Bool) → List Change → ℕ
number_of is_other [] = 0
number_of is_other (c ∷ cs) = one_if (is_other c) + number_of is_other cs

abbrev pub row_if : (Change → Bool) → (Change → List ℕ) → ℕ → Change → List ℕ
row_if is_other line told c = if is_other c && nat_lt told most then line c else []

abbrev pub rows_from : (Change → Bool) → (Change → List ℕ) → ℕ → List Change → List ℕ
rows_from is_other line told [] = []
rows_from is_other line told (c ∷ cs) =
    row_if is_other line told c ++ rows_from is_other line (told + one_if (is_other c)) cs

-- the rows are written, and the answer counts all changes, including those that had no row left
abbrev pub Tells :
    {S E : Type 0} → (S → Option (List ℕ)) → Watched S → Watched S → Result ℕ E → Sheet → Stage → Stage → ℕ
    → List Change → Type 0
Tells contents old new (Ok count) s was now told cs =
    (count ≡ told + number_of (differs was now) cs)
    × Appends (contents (stream_of old)) (contents (stream_of new)) (rows_from (differs was now) (row s was now) told cs)
Tells contents old new (Err why) s was now told cs = ⊤
