-- The export's `meta`: the format's version, and the day and the revision of the file from the sheet's table [meta].
use Rattle.std.specs.Prelude.{ℕ, List, [], ◌∷◌, ◌++◌, Option, Some, None, option_and_then, unwrap_or, codes}
use Rattle.toml.specs.Data.{Members}
use Rattle.toml_datetime.specs.Text.{date_text}
use Rattle.toml_datetime.specs.declared.datetime.{Date.Date}
use Rattle.json.specs.Json.{Json}
use Rattle.json_fields.specs.Values.{Field, object_of, text_field, number_field}
use Rattle.sheet_check.specs.Handed.{day_of, meta_at, revision_of}

-- the day on which the file was made, where the sheet gives it
abbrev pub created_in : Members → Option Date
created_in document = option_and_then day_of (meta_at (codes "created") document)

-- the revision of the file: 1, where the sheet gives none
abbrev pub revision_in : Members → ℕ
revision_in document = unwrap_or (option_and_then revision_of (meta_at (codes "revision") document)) 1

abbrev pub created_fields : Option Date → List Field
created_fields None = []
created_fields (Some day) = text_field (codes "created") (date_text day) ∷ []

-- the version of the format, the day, and the revision of the file
abbrev pub meta_of : Members → Json
meta_of document =
    object_of (text_field (codes "data_version") (codes "1.1.0")
    ∷ (created_fields (created_in document) ++ number_field (codes "revision") (revision_in document) ∷ []))

abbrev pub meta_field : Members → Field
meta_field document = (codes "meta", meta_of document)
