-- The faults of a sheet's table `[stations]`, key by key, and its duplicates.
use Rattle.std.specs.Prelude.{ℕ, ◌||◌, nat_le, ◌&&◌, Bool, true, if◌then◌else◌, List, [], ◌∷◌, ◌++◌, Option, Some, None, is_some, codes, bytes_eq}
use Rattle.toml.specs.Data.{Data, Items, no_items, item, Members, no_members, member, get_member, as_str, as_array, as_table}
use Rattle.cards.specs.Reading.{count_of}
use Rattle.cards.specs.Sheet.{least_columns, most_columns}
use Rattle.cards.specs.declared.fault.SheetFault.TheVariants.{WrongKind}
use Rattle.sheet_check.specs.Faults.{Fault, at, number_at, unless}
use Rattle.sheet_check.specs.Letters.{quoted}
use Rattle.sheet_check.specs.Twice.{twice_faults}

-- the keys of the copies of the votes: of either desk, of desk a, and of desk b
abbrev pub is_copy_key : List ℕ → Bool
is_copy_key key = (bytes_eq key (codes "copy") || bytes_eq key (codes "copy_a")) || bytes_eq key (codes "copy_b")

-- the keys whose values are texts: both desks' addresses, and the files of the key, the votes and the copies
abbrev pub is_text_key : List ℕ → Bool
is_text_key key =
    (((bytes_eq key (codes "a") || bytes_eq key (codes "b")) || bytes_eq key (codes "key")) || bytes_eq key (codes "votes"))
    || is_copy_key key

-- where a key is, as reports name it
abbrev pub place : List ℕ → List ℕ
place key = codes "stations, " ++ key

abbrev pub text_key_faults : List ℕ → Option (List ℕ) → List Fault
text_key_faults key None = at WrongKind (place key) (codes "isn't a text in quotes") ∷ []
text_key_faults key (Some text) = []

abbrev pub are_texts : Items → Bool
are_texts no_items = true
are_texts (item d ds) = is_some (as_str d) && are_texts ds

-- the faults of the boards, which are none to four texts
abbrev pub boards_faults : Option Items → List Fault
boards_faults None = at WrongKind (place (codes "boards")) (codes "isn't a list of texts in quotes") ∷ []
boards_faults (Some ds) =
    unless (are_texts ds) (at WrongKind (place (codes "boards")) (codes "isn't a list of texts in quotes"))
    ++ unless (nat_le (count_of ds) 4) (at WrongKind (place (codes "boards")) (codes "are more than 4"))

-- the fault of the width of a scorer's rows
abbrev pub columns_faults : Data → List Fault
columns_faults d =
    number_at least_columns most_columns (place (codes "columns")) (codes "isn't from 60 to 200") (Some d)

-- the faults of a key and its value
abbrev pub key_faults : List ℕ → Data → List Fault
key_faults key d =
    if bytes_eq key (codes "boards") then boards_faults (as_array d)
    else if bytes_eq key (codes "columns") then columns_faults d
    else if is_text_key key then text_key_faults key (as_str d)
    else at WrongKind (codes "stations") (quoted key ++ codes " isn't one of a, b, boards, key, votes, copy, copy_a, copy_b, columns") ∷ []

abbrev pub members_faults : Members → List Fault
members_faults no_members = []
members_faults (member key d ms) = key_faults key d ++ members_faults ms

abbrev pub table_faults : Option Members → List Fault
table_faults None = at WrongKind (codes "stations") (codes "isn't a table") ∷ []
table_faults (Some ms) = members_faults ms ++ twice_faults ms

abbrev pub stations_at : Option Data → List Fault
stations_at None = []
stations_at (Some d) = table_faults (as_table d)

-- all faults of a sheet's stations: none if it has no table `[stations]`
abbrev pub station_faults : Members → List Fault
station_faults ms = stations_at (get_member (codes "stations") ms)
