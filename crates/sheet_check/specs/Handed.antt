-- The parts of a sheet's document that are passed on to archives and pages beside the match, its tables [info] and [meta],
-- and their faults. A sheet is refused for these only if they are passed on.
use Rattle.std.specs.Prelude.{ℕ, Bool, true, ◌&&◌, nat_le, if◌then◌else◌, pos, ℤ, List, ◌++◌, Option, Some, None, is_none, is_some, option_and_then, codes}
use Rattle.toml.specs.Data.{Data, string, datetime, Members, get_member, as_integer, as_table}
use Rattle.toml_datetime.specs.Parse.{parse_datetime}
use Rattle.toml_datetime.specs.declared.datetime.{Date.Date, Datetime.Datetime}
use Rattle.cards.specs.declared.fault.SheetFault.TheVariants.{WrongKind}
use Rattle.sheet_check.specs.Faults.{Fault, at, unless}

-- the date of a date without a time or an offset
abbrev pub local_date : Datetime → Option Date
local_date d = if is_none d.time && is_none d.offset then d.date else None

-- a value read as a day: a date, or a text that is one
abbrev pub day_of : Data → Option Date
day_of (datetime d) = local_date d
day_of (string text) = option_and_then local_date (parse_datetime text)
day_of d = None

-- a whole number from 1 on
abbrev pub from_one : ℤ → Option ℕ
from_one (pos n) = if nat_le 1 n then Some n else None
from_one z = None

abbrev pub revision_of : Data → Option ℕ
revision_of d = option_and_then from_one (as_integer d)

-- the value at a key of the table [meta] of a sheet's document
abbrev pub meta_at : List ℕ → Members → Option Data
meta_at key document = option_and_then (get_member key) (option_and_then as_table (get_member (codes "meta") document))

-- the value is absent, or can be read as what is wanted
abbrev pub is_fine : {A : Type 0} → (Data → Option A) → Option Data → Bool
is_fine told None = true
is_fine told (Some d) = is_some (told d)

-- the value at the key is absent or a table
abbrev pub has_fine_table : List ℕ → Members → Bool
has_fine_table key document = is_fine as_table (get_member key document)

-- `created` in [meta] is absent or a day
abbrev pub has_fine_day : Members → Bool
has_fine_day document = is_fine day_of (meta_at (codes "created") document)

-- `revision` in [meta] is absent or a whole number from 1 on
abbrev pub has_fine_revision : Members → Bool
has_fine_revision document = is_fine revision_of (meta_at (codes "revision") document)

-- all parts that are passed on are fine
abbrev pub is_fine_document : Members → Bool
is_fine_document document =
    ((has_fine_table (codes "info") document && has_fine_table (codes "meta") document) && has_fine_day document)
    && has_fine_revision document

-- the fault of each part that isn't fine
abbrev pub table_faults : List ℕ → Members → List Fault
table_faults key document = unless (has_fine_table key document) (at WrongKind key (codes "isn't a table"))

abbrev pub day_faults : Members → List Fault
day_faults document = unless (has_fine_day document) (at WrongKind (codes "meta, created") (codes "isn't a day, such as 2026-08-22"))

abbrev pub revision_faults : Members → List Fault
revision_faults document =
    unless (has_fine_revision document) (at WrongKind (codes "meta, revision") (codes "isn't a whole number from 1 on"))

abbrev pub handed_faults : Members → List Fault
handed_faults document =
    table_faults (codes "info") document
    ++ (table_faults (codes "meta") document ++ (day_faults document ++ revision_faults document))
