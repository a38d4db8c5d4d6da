-- How the table `limits` of a sheet's TOML document is read: each key by itself. An unfit key is treated as absent, and is
-- reported.
use Rattle.std.specs.Prelude.{◌≡◌, ◌≢◌, ℕ, nat_le, ◌&&◌, if◌then◌else◌, Bool, false, pos, ℤ, List, [], ◌∷◌, is_some, Option, Some, None, option_map, option_and_then, unwrap_or, Result, Ok, Err, codes}
use Rattle.toml.specs.Data.{Data, Items, no_items, item, Members, get_member, as_integer, as_bool, as_array, as_table}
use Rattle.limits.specs.declared.{key.Key.Key, powerplay.Powerplay.Powerplay, unfit.Unfit.Unfit}
use Rattle.limits.specs.declared.unfit.Unfit.TheVariants.{NoMemory, OtherKind, OutOfRange}
use Rattle.limits.specs.Limits.{Limits, no_limits}

-- the next step of reading with the value so far, or why that value is unfit
infixl 10 ◌>>=◌
abbrev pub ◌>>=◌ : {A B : Type 0} → Result A Unfit → (A → Result B Unfit) → Result B Unfit
(Ok x) >>= f = f x
(Err why) >>= f = Err why

abbrev pub of_kind : {A : Type 0} → Option A → Result A Unfit
of_kind None = Err OtherKind
of_kind (Some x) = Ok x

-- a number of overs: 1 to 450
abbrev pub most_overs : ℕ
most_overs = 450

abbrev pub checked_overs : ℤ → Result ℕ Unfit
checked_overs (pos n) = if nat_le 1 n && nat_le n most_overs then Ok n else Err OutOfRange
checked_overs z = Err OutOfRange

abbrev pub number_of : Data → Result ℕ Unfit
number_of d = of_kind (as_integer d) >>= checked_overs

-- a list of numbers of overs
abbrev pub numbers_of : Items → Result (List ℕ) Unfit
numbers_of no_items = Ok []
numbers_of (item d ds) = number_of d >>= λ n. numbers_of ds >>= λ ns. Ok (n ∷ ns)

-- the overs of each innings: a list, or one number for all of them
abbrev pub one_number : Data → Result (List ℕ) Unfit
one_number d = number_of d >>= λ n. Ok (n ∷ [])

abbrev pub listed_or : Data → Option Items → Result (List ℕ) Unfit
listed_or d None = one_number d
listed_or d (Some ds) = numbers_of ds

abbrev pub overs_of : Data → Result (List ℕ) Unfit
overs_of d = listed_or d (as_array d)

abbrev pub a_bowler_of : Data → Result (Option ℕ) Unfit
a_bowler_of d = number_of d >>= λ n. Ok (Some n)

abbrev pub flag_of : Data → Result Bool Unfit
flag_of d = of_kind (as_bool d)

-- a powerplay: its first over and its last, which is no earlier
abbrev pub checked_powerplay : ℕ → ℕ → Result Powerplay Unfit
checked_powerplay first last = if nat_le first last then Ok (record { first = first; last = last }) else Err OutOfRange

abbrev pub two_numbers : Data → Data → Result Powerplay Unfit
two_numbers d e = number_of d >>= λ first. number_of e >>= λ last. checked_powerplay first last

abbrev pub pair_of : Items → Result Powerplay Unfit
pair_of (item d (item e no_items)) = two_numbers d e
pair_of ds = Err OtherKind

abbrev pub powerplay_of : Data → Result Powerplay Unfit
powerplay_of d = of_kind (as_array d) >>= pair_of

abbrev pub each_powerplay : Items → Result (List Powerplay) Unfit
each_powerplay no_items = Ok []
each_powerplay (item d ds) = powerplay_of d >>= λ p. each_powerplay ds >>= λ ps. Ok (p ∷ ps)

abbrev pub powerplays_of : Data → Result (List Powerplay) Unfit
powerplays_of d = of_kind (as_array d) >>= each_powerplay

-- ---- key by key

-- the reading of a value, or this default if the key is absent
abbrev pub read_or : {A : Type 0} → A → (Data → Result A Unfit) → Option Data → Result A Unfit
read_or none reading None = Ok none
read_or none reading (Some d) = reading d

abbrev pub overs_at : Members → Result (List ℕ) Unfit
overs_at table = read_or [] overs_of (get_member (codes "overs") table)

abbrev pub a_bowler_at : Members → Result (Option ℕ) Unfit
a_bowler_at table = read_or None a_bowler_of (get_member (codes "overs_a_bowler") table)

abbrev pub free_hits_at : Members → Result Bool Unfit
free_hits_at table = read_or false flag_of (get_member (codes "free_hits") table)

abbrev pub powerplays_at : Members → Result (List Powerplay) Unfit
powerplays_at table = read_or [] powerplays_of (get_member (codes "powerplays") table)

-- the value of a key, or this default if the key is unfit
abbrev pub fit_or : {A : Type 0} → A → Result A Unfit → A
fit_or none (Ok x) = x
fit_or none (Err why) = none

abbrev pub limits_from : Members → Limits
limits_from table = record {
  overs = fit_or [] (overs_at table);
  overs_a_bowler = fit_or None (a_bowler_at table);
  free_hits = fit_or false (free_hits_at table);
  powerplays = fit_or [] (powerplays_at table);
}

-- the table `limits` of a document, if it has one
abbrev pub table_of : Members → Option Members
table_of document = option_and_then as_table (get_member (codes "limits") document)

-- the limits in a sheet's document
abbrev pub limits_in : Members → Limits
limits_in document = unwrap_or (option_map limits_from (table_of document)) no_limits

-- ---- what is reported

abbrev pub why_not : {A : Type 0} → Result A Unfit → Option Unfit
why_not (Ok x) = None
why_not (Err why) = Some why

-- `OtherKind` if the value of `limits` is not a table
abbrev pub checked_table : Data → Option Unfit
checked_table d = if is_some (as_table d) then None else Some OtherKind

abbrev pub key_unfit : Key → Members → Option Unfit
key_unfit Key.Table table = None
key_unfit Key.Overs table = why_not (overs_at table)
key_unfit Key.OversABowler table = why_not (a_bowler_at table)
key_unfit Key.FreeHits table = why_not (free_hits_at table)
key_unfit Key.Powerplays table = why_not (powerplays_at table)

-- why a key is unfit, in a document that may have no table `limits`
abbrev pub unfit_in_table : Key → Members → Option Unfit
unfit_in_table key document = option_and_then (key_unfit key) (table_of document)

-- why a key of a sheet's document is unfit
abbrev pub unfit_in : Key → Members → Option Unfit
unfit_in Key.Table document = option_and_then checked_table (get_member (codes "limits") document)
unfit_in key document = unfit_in_table key document

-- the answer, seen as `seen` does, is the one that is meant, unless an allocation failed
abbrev pub Reads : {A B : Type 0} → (A → B) → Result A Unfit → Result B Unfit → Type 0
Reads seen (Ok x) meant = meant ≡ Ok (seen x)
Reads seen (Err why) meant = why ≢ NoMemory → meant ≡ Err why
