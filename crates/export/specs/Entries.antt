-- The entries of a book, each as it was penned.
use Rattle.std.specs.Prelude.{ℕ, ◌==◌, if◌then◌else◌, List, [], ◌∷◌, ◌++◌, length, Option, Some, None, slice_get, codes}
use Rattle.notation.specs.declared.entry.Entry.{Entry}
use Rattle.notation.specs.declared.entry.Entry.TheVariants.{Fix}
use Rattle.notation.specs.Written.{text_of}
use Rattle.json.specs.Json.{Json}
use Rattle.json_fields.specs.Values.{Field, array_of, object_of, text_field, number_field, number_value, up_to}

-- place k, where the entry at k is a `fix` of place p
abbrev pub fix_at : ℕ → ℕ → Option Entry → List Json
fix_at p k (Some (Fix q x)) = if q == p then number_value k ∷ [] else []
fix_at p k _ = []

-- the places of the entries that correct place p
abbrev pub fixes_of : List Entry → ℕ → List Json
fixes_of book p = up_to (λ k. fix_at p k (slice_get book k)) (length book)

abbrev pub fixes_field : List Entry → ℕ → Field
fixes_field book p = (codes "corrected_by", array_of (fixes_of book p))

abbrev pub line_field : Entry → Field
line_field e = text_field (codes "line") (text_of e)

-- the entry at place p
abbrev pub entry_of : List Entry → ℕ → Entry → Json
entry_of book p e =
    object_of (number_field (codes "place") p ∷ []
    ++ line_field e ∷ []
    ++ fixes_field book p ∷ [])

abbrev pub entry_at : List Entry → ℕ → Option Entry → List Json
entry_at book p None = []
entry_at book p (Some e) = entry_of book p e ∷ []

-- all entries, in the order of their places
abbrev pub entries_of : List Entry → List Json
entries_of book = up_to (λ p. entry_at book p (slice_get book p)) (length book)

abbrev pub book_field : List Entry → Field
book_field book = (codes "book", array_of (entries_of book))
