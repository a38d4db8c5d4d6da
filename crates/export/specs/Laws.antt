-- What an export says about its match, as a reader looks it up in the JSON value.
use Rattle.std.specs.Prelude.{◌≡◌, ◌≢◌, ℕ, ◌+◌, Bool, true, false, not, bytes_eq, if◌then◌else◌, List, [], ◌∷◌, length, map, codes, Some, None, slice_get}
use Rattle.std.specs.List.{flat_map, list_any}
use Rattle.notation.specs.declared.entry.{Entry.Entry}
use Rattle.ball_laws.specs.History.{History}
use Rattle.ball_laws.specs.Sums.{tally, count_of}
use Rattle.match_laws.specs.Figures.{total, wickets}
use Rattle.corrections.specs.CleanList.{clean, history_of}
use Rattle.cards.specs.Sheet.{Sheet}
use Rattle.toml.specs.Data.{Data, Members as Table, get_member}
use Rattle.json.specs.Json.{Json, null, string, array, object, Items, no_items, item, Members, no_members, member}
use Rattle.toml_datetime.specs.declared.datetime.Date.{Date}
use Rattle.toml_datetime.specs.Text.{date_text}
use Rattle.json_fields.specs.Values.{Field, number_value}
use Rattle.archive_deliveries.specs.declared.notes.Noted.{Noted}
use Rattle.archive_deliveries.specs.Notes.{notes}
use Rattle.export.specs.Given.{IsValueOf, info_in, is_own}
use Rattle.sheet_check.specs.Handed.{day_of, meta_at}
use Rattle.export.specs.Meta.{meta_of}
use Rattle.export.specs.Info.{info_of}
use Rattle.export.specs.Innings.{innings_of}
use Rattle.export.specs.Entries.{entries_of, entry_of}

-- the value at a key of members: null, where they lack the key
abbrev pub member_at : List ℕ → Members → Json
member_at name no_members = null
member_at name (member key value more) = if bytes_eq name key then value else member_at name more

abbrev pub at : List ℕ → Json → Json
at name (object more) = member_at name more
at name _ = null

abbrev pub elements : Items → List Json
elements no_items = []
elements (item value more) = value ∷ elements more

-- the values of an array: none, where the value is no array
abbrev pub values_of : Json → List Json
values_of (array more) = elements more
values_of _ = []

-- the deliveries of an innings, over by over
abbrev pub deliveries_in : Json → List Json
deliveries_in innings = flat_map (λ over. values_of (at (codes "deliveries") over)) (values_of (at (codes "overs") innings))

-- the total of a delivery
abbrev pub total_in : Json → Json
total_in delivery = at (codes "total") (at (codes "runs") delivery)

-- a key's value is the number n, or the key is missing and n is 0
abbrev pub IsCount : ℕ → Json → Type 0
IsCount n null = n ≡ 0
IsCount n value = value ≡ number_value n

-- the items of a book's clean list, each with where it stands
abbrev pub noted_items : List Entry → List Noted
noted_items book = notes [] (clean book)

-- the totals of the deliveries of an innings, and its penalty runs before and after, add up to n
pub record AddsUpTo (innings : Json) (n : ℕ) : Type 0 where
  pub totals : List ℕ
  pub before : ℕ
  pub after : ℕ
  pub each : map total_in (deliveries_in innings) ≡ map number_value totals
  pub pre : IsCount before (at (codes "pre") (at (codes "penalty_runs") innings))
  pub post : IsCount after (at (codes "post") (at (codes "penalty_runs") innings))
  pub sum : tally (λ k. k) totals + before + after ≡ n

-- innings i of a book, as its export has it
abbrev pub innings_at : Sheet → List Entry → ℕ → Json
innings_at s book i = innings_of s (history_of book) (noted_items book) i

-- each innings in the export adds up to its total
abbrev pub TotalsAddUp : Sheet → List Entry → Type 0
TotalsAddUp s book = (i : ℕ) → AddsUpTo (innings_at s book i) (total (history_of book) i)

-- the wickets of a delivery
abbrev pub wickets_of : Json → List Json
wickets_of delivery = values_of (at (codes "wickets") delivery)

abbrev pub is_text : List ℕ → Json → Bool
is_text text (string other) = bytes_eq text other
is_text text _ = false

-- a wicket that has fallen: any but a player retired hurt
abbrev pub has_fallen : Json → Bool
has_fallen wicket = not (is_text (codes "retired hurt") (at (codes "kind") wicket))

-- how many wickets of the deliveries of an innings have fallen
abbrev pub fallen_in : Json → ℕ
fallen_in innings = tally (λ delivery. count_of has_fallen (wickets_of delivery)) (deliveries_in innings)

-- in an innings with a delivery as many wickets as fell: an innings without deliveries has no place for a wicket
abbrev pub WicketsAddUp : Sheet → List Entry → Type 0
WicketsAddUp s book = (i : ℕ) → deliveries_in (innings_at s book i) ≢ [] → fallen_in (innings_at s book i) ≡ wickets (history_of book) i

-- each entry stands once, at its place
pub record HasEachEntry (book : List Entry) : Type 0 where
  pub count : length (entries_of book) ≡ length book
  pub each : (p : ℕ) (e : Entry) → slice_get book p ≡ Some e → slice_get (entries_of book) p ≡ Some (entry_of book p e)

-- each key of the sheet's table [info] that isn't the export's own stands under `info`, with its value
abbrev pub HasEachKey : Sheet → History → Table → List Field → Type 0
HasEachKey s h document given =
    (key : List ℕ) (d : Data) → get_member key (info_in document) ≡ Some d → is_own key ≡ false → IsValueOf d (at key (info_of s h (info_in document) given))

-- no copied field has a key of the export's own
abbrev pub LeavesOwn : List Field → Type 0
LeavesOwn given = (key : List ℕ) → is_own key ≡ true → list_any (λ f. bytes_eq key f.0) given ≡ false

-- the value at a key of `meta`
abbrev pub in_meta : List ℕ → Table → Json
in_meta key document = at key (meta_of document)

-- `created` and `revision` of the sheet's table [meta] stand under `meta`, with their values; without `created`, `meta` has no
-- day, and without `revision`, it has revision 1
pub record TellsOfFile (document : Table) : Type 0 where
  pub created : (d : Data) → meta_at (codes "created") document ≡ Some d → IsValueOf d (in_meta (codes "created") document)
  pub revision : (d : Data) → meta_at (codes "revision") document ≡ Some d → IsValueOf d (in_meta (codes "revision") document)
  pub undated : meta_at (codes "created") document ≡ None → in_meta (codes "created") document ≡ null
  pub first : meta_at (codes "revision") document ≡ None → in_meta (codes "revision") document ≡ number_value 1

-- where [meta] has `created`, it is a day, and the export has the day's text
abbrev pub TellsDay : Table → Type 0
TellsDay document = (d : Data) → meta_at (codes "created") document ≡ Some d
    → (day : Date) × (day_of d ≡ Some day) × (in_meta (codes "created") document ≡ string (date_text day))
