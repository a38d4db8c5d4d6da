-- The day of a match: the first of the `dates` in the table [info] of its sheet, as text.
use Rattle.std.specs.Prelude.{ℕ, List, [], Option, Some, None, codes}
use Rattle.toml.specs.Data as toml
use Rattle.toml.specs.Data.{Data, Members, at, get_member}
use Rattle.toml_datetime.specs.Text.{datetime_text}
use Rattle.export.specs.Given.{info_in}

-- a text, or a date as text; no other value is a day
abbrev pub data_text : Data → List ℕ
data_text (toml.string text) = text
data_text (toml.datetime time) = datetime_text time
data_text _ = []

abbrev pub text_or_none : Option Data → List ℕ
text_or_none None = []
text_or_none (Some d) = data_text d

-- the first value of a list
abbrev pub first_text : Option Data → List ℕ
first_text None = []
first_text (Some dates) = text_or_none (at 0 dates)

-- the day in a sheet's document, or nothing if it has none
abbrev pub day_of : Members → List ℕ
day_of document = first_text (get_member (codes "dates") (info_in document))
