-- Worked documents of sheets: what `meta` says, which documents are refused, and which outcomes are "no result".
use Rattle.std.specs.Prelude.{◌≡◌, ℕ, true, false, pos, negsuc, List, [], ◌∷◌, Some, None, codes}
use Rattle.toml.specs.Data.{Data, Members, no_members, member, datetime, string, integer, table}
use Rattle.toml_datetime.specs.declared.datetime.{Date.Date, Time.Time}
use Rattle.json_fields.specs.Values.{Field, object_of, text_field, number_field}
use Rattle.sheet_check.specs.Handed.{is_fine_document}
use Rattle.export.specs.Info.{has_no_result}
use Rattle.export.specs.Meta.{meta_of}

-- a document that has one key
abbrev pub with_key : List ℕ → Data → Members
with_key key d = member key d no_members

abbrev pub with_meta : List ℕ → Data → Members
with_meta key d = with_key (codes "meta") (table (with_key key d))

-- a document whose `created` is a text
abbrev pub dated : List ℕ → Members
dated text = with_meta (codes "created") (string text)

-- a table [info] whose `outcome` has this `result`
abbrev pub with_result : Data → Members
with_result result = with_key (codes "outcome") (table (with_key (codes "result") result))

abbrev pub day : Date
day = record { year = 2026; month = 8; day = 22 }

abbrev pub tea : Time
tea = record { hour = 15; minute = 40; second = None; nanosecond = None }

abbrev pub version : Field
version = text_field (codes "data_version") (codes "1.1.0")

abbrev pub created : Field
created = text_field (codes "created") (codes "2026-08-22")

abbrev pub revision : ℕ → Field
revision n = number_field (codes "revision") n

pub record WorkedDocuments : Type 0 where
  pub nothing : meta_of no_members ≡ object_of (version ∷ revision 1 ∷ [])
  pub a_date : meta_of (with_meta (codes "created") (datetime (record { date = Some day; time = None; offset = None })))
      ≡ object_of (version ∷ created ∷ revision 1 ∷ [])
  pub a_text : meta_of (dated (codes "2026-08-22")) ≡ object_of (version ∷ created ∷ revision 1 ∷ [])
  pub third : meta_of (with_meta (codes "revision") (integer (pos 3))) ≡ object_of (version ∷ revision 3 ∷ [])
  pub other_version : meta_of (with_meta (codes "data_version") (string (codes "1.0.0"))) ≡ object_of (version ∷ revision 1 ∷ [])
  pub fine_nothing : is_fine_document no_members ≡ true
  pub fine_text : is_fine_document (dated (codes "2026-08-22")) ≡ true
  pub leap_day : is_fine_document (dated (codes "2028-02-29")) ≡ true
  pub no_leap_day : is_fine_document (dated (codes "2026-02-29")) ≡ false
  pub other_order : is_fine_document (dated (codes "22.8.2026")) ≡ false
  pub short_month : is_fine_document (dated (codes "2026-8-22")) ≡ false
  pub more_behind : is_fine_document (dated (codes "2026-08-22 ")) ≡ false
  pub a_time : is_fine_document (dated (codes "15:40")) ≡ false
  pub a_day_and_time : is_fine_document (dated (codes "2026-08-22T15:40")) ≡ false
  pub a_date_and_time : is_fine_document (with_meta (codes "created") (datetime (record { date = Some day; time = Some tea; offset = None }))) ≡ false
  pub a_year : is_fine_document (with_meta (codes "created") (integer (pos 2026))) ≡ false
  pub revision_of_0 : is_fine_document (with_meta (codes "revision") (integer (pos 0))) ≡ false
  pub revision_below_0 : is_fine_document (with_meta (codes "revision") (integer (negsuc 0))) ≡ false
  pub revision_in_words : is_fine_document (with_meta (codes "revision") (string (codes "2"))) ≡ false
  pub meta_no_table : is_fine_document (with_key (codes "meta") (string (codes "2026-08-22"))) ≡ false
  pub info_no_table : is_fine_document (with_key (codes "info") (string (codes "at Alder Green"))) ≡ false
  pub outside : is_fine_document (with_key (codes "created") (string (codes "today"))) ≡ true
  pub no_result : has_no_result (with_result (string (codes "no result"))) ≡ true
  pub a_draw : has_no_result (with_result (string (codes "draw"))) ≡ false
  pub result_no_text : has_no_result (with_result (integer (pos 0))) ≡ false
  pub outcome_no_table : has_no_result (with_key (codes "outcome") (string (codes "no result"))) ≡ false
  pub no_outcome : has_no_result no_members ≡ false
