-- What the export copies from a sheet's table [info]: each TOML value as a JSON value.
use Rattle.std.specs.Prelude.{◌≡◌, ℕ, Bool, ◌||◌, if◌then◌else◌, bytes_eq, List, [], ◌∷◌, Option, Some, None, option_and_then, Float, codes}
use Rattle.std.specs.Bool.{MatchBool}
use Rattle.std.specs.Float.{binary64, float_is_finite}
use Rattle.std.specs.Fmt.{signed_decimal}
use Rattle.fast_float.specs.Parse.{parse_float}
use Rattle.toml.specs.Data as toml
use Rattle.toml.specs.Data.{Data, Items, no_items, item, Members, no_members, member, get_member, as_table}
use Rattle.toml_datetime.specs.Text.{datetime_text}
use Rattle.json.specs.Json.{Json, null, boolean, number, string}
use Rattle.json.specs.Print.{IsNumber}
use Rattle.json_fields.specs.Values.{Field, array_of, object_of}

-- a JSON number that reads as the float, or null for an infinite float or NaN, which JSON lacks
abbrev pub IsFloatOf : Float → Json → Type 0
IsFloatOf x v =
    MatchBool (float_is_finite x) ((text : List ℕ) × (v ≡ number text) × IsNumber text × (parse_float binary64 text ≡ Some x))
    (v ≡ null)

-- the JSON value for a TOML value: a date or a time becomes its text
abbrev mutual
  pub IsValueOf : Data → Json → Type 0
  IsValueOf (toml.string text) v = v ≡ string text
  IsValueOf (toml.integer z) v = v ≡ number (signed_decimal z)
  IsValueOf (toml.float x) v = IsFloatOf x v
  IsValueOf (toml.boolean b) v = v ≡ boolean b
  IsValueOf (toml.datetime time) v = v ≡ string (datetime_text time)
  IsValueOf (toml.array ds) v = (vs : List Json) × (v ≡ array_of vs) × AreValuesOf ds vs
  IsValueOf (toml.table ms) v = (fs : List Field) × (v ≡ object_of fs) × AreFieldsOf ms fs

  pub AreValuesOf : Items → List Json → Type 0
  AreValuesOf no_items vs = vs ≡ []
  AreValuesOf (item d ds) vs = (v : Json) × (more : List Json) × (vs ≡ v ∷ more) × IsValueOf d v × AreValuesOf ds more

  pub AreFieldsOf : Members → List Field → Type 0
  AreFieldsOf no_members fs = fs ≡ []
  AreFieldsOf (member key d ms) fs = (v : Json) × (more : List Field) × (fs ≡ (key, v) ∷ more) × IsValueOf d v × AreFieldsOf ms more

-- the keys under `info` that are always the export's own
abbrev pub is_own : List ℕ → Bool
is_own key =
    ((bytes_eq key (codes "teams") || bytes_eq key (codes "players")) || bytes_eq key (codes "balls_per_over"))
    || bytes_eq key (codes "outcome")

-- the members whose keys aren't the export's own
abbrev pub others : Members → Members
others no_members = no_members
others (member key d ms) = if is_own key then others ms else member key d (others ms)

-- the table at a key of a sheet's document
abbrev pub table_in : List ℕ → Members → Option Members
table_in key document = option_and_then as_table (get_member key document)

-- the members of a table: none, where there is no table
abbrev pub members_or_none : Option Members → Members
members_or_none None = no_members
members_or_none (Some ms) = ms

-- the table [info]
abbrev pub info_in : Members → Members
info_in document = members_or_none (table_in (codes "info") document)

-- given are the fields copied from a sheet's document
abbrev pub HandsOn : Members → List Field → Type 0
HandsOn document given = AreFieldsOf (others (info_in document)) given

-- ---- what the umpires or the league ruled

abbrev pub ruling : Option Data → Members
ruling None = no_members
ruling (Some d) = member (codes "outcome") d no_members

-- the `outcome` among the members of [info]
abbrev pub ruled : Members → Members
ruled info = ruling (get_member (codes "outcome") info)

-- told is the field of the outcome in a sheet's [info], where there is one
abbrev pub IsRuled : Members → List Field → Type 0
IsRuled document told = AreFieldsOf (ruled (info_in document)) told
