-- The faults of a sheet's table `[limits]`, key by key. No sheet is refused for them.
use Rattle.std.specs.Prelude.{ℕ, ◌||◌, Bool, List, [], ◌∷◌, ◌++◌, Option, Some, None, codes, bytes_eq}
use Rattle.toml.specs.Data.{Members, no_members, member}
use Rattle.limits.specs.declared.{key.Key.Key, unfit.Unfit.Unfit}
use Rattle.limits.specs.declared.unfit.Unfit.TheVariants.{NoMemory, OtherKind, OutOfRange}
use Rattle.limits.specs.Reading.{table_of, unfit_in}
use Rattle.cards.specs.declared.fault.SheetFault.TheVariants.{BadNumber, WrongKind}
use Rattle.sheet_check.specs.Faults.{Fault, at, kind, unless}
use Rattle.sheet_check.specs.Letters.{quoted}

abbrev pub place : Key → List ℕ
place Key.Table = codes "limits"
place Key.Overs = codes "limits, overs"
place Key.OversABowler = codes "limits, overs_a_bowler"
place Key.FreeHits = codes "limits, free_hits"
place Key.Powerplays = codes "limits, powerplays"

-- the words for a value of another kind
abbrev pub kind_words : Key → List ℕ
kind_words Key.Table = codes "isn't a table"
kind_words Key.Overs = codes "isn't a whole number, or a list of them"
kind_words Key.OversABowler = codes "isn't a whole number"
kind_words Key.FreeHits = codes "isn't true or false"
kind_words Key.Powerplays = codes "isn't a list of first and last overs, as [[1, 8], [33, 40]]"

-- the words for a number out of its range
abbrev pub range_words : Key → List ℕ
range_words Key.Powerplays = codes "has an over that isn't from 1 to 450, or a last one before the first"
range_words key = codes "isn't from 1 to 450"

abbrev pub told_of : Key → Option Unfit → List Fault
told_of key None = []
told_of key (Some NoMemory) = []
told_of key (Some OtherKind) = kind (place key) (kind_words key)
told_of key (Some OutOfRange) = at BadNumber (place key) (range_words key) ∷ []

-- the fault of a key whose value is unfit
abbrev pub key_faults : Key → Members → List Fault
key_faults key ms = told_of key (unfit_in key ms)

-- the keys that the table may have
abbrev pub is_key : List ℕ → Bool
is_key key =
    ((bytes_eq key (codes "overs") || bytes_eq key (codes "overs_a_bowler")) || bytes_eq key (codes "free_hits")) || bytes_eq key (codes "powerplays")

-- the fault of a key that the table can't have
abbrev pub unknown_of : List ℕ → List Fault
unknown_of key =
    unless (is_key key) (at WrongKind (codes "limits") (quoted key ++ codes " isn't one of overs, overs_a_bowler, free_hits, powerplays"))

abbrev pub unknown_faults : Members → List Fault
unknown_faults no_members = []
unknown_faults (member key d ms) = unknown_of key ++ unknown_faults ms

abbrev pub unknown_in : Option Members → List Fault
unknown_in None = []
unknown_in (Some table) = unknown_faults table

-- all faults of a sheet's limits: none if it has no table `[limits]`
abbrev pub limit_faults : Members → List Fault
limit_faults ms =
    key_faults Key.Table ms
    ++ (key_faults Key.Overs ms
    ++ (key_faults Key.OversABowler ms
    ++ (key_faults Key.FreeHits ms
    ++ (key_faults Key.Powerplays ms
    ++ unknown_in (table_of ms)))))
