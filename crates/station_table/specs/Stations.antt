-- The values in a sheet's table `[stations]`. ms is the sheet's top-level table.
use Rattle.std.specs.Prelude.{◌≡◌, ◌≢◌, ℕ, ℤ, pos, ◌&&◌, nat_le, if◌then◌else◌, List, Option, Some, None, option_and_then, codes}
use Rattle.toml.specs.Data.{Data, Members, at as item_at, get_member, as_integer, as_str, as_table}
use Rattle.cards.specs.Sheet.{least_columns, most_columns}

-- the value at a key of `[stations]`
abbrev pub value_in : List ℕ → Members → Option Data
value_in key ms = option_and_then (get_member key) (option_and_then as_table (get_member (codes "stations") ms))

-- that value, if it is a text
abbrev pub text_in : List ℕ → Members → Option (List ℕ)
text_in key ms = option_and_then as_str (value_in key ms)

-- the address of a board; boards are counted from 0
abbrev pub board_in : ℕ → Members → Option (List ℕ)
board_in n ms = option_and_then as_str (option_and_then (item_at n) (value_in (codes "boards") ms))

-- the width of a scorer's rows, if rows can have it
abbrev pub columns_from : ℤ → Option ℕ
columns_from (pos n) = if nat_le least_columns n && nat_le n most_columns then Some n else None
columns_from _ = None

abbrev pub columns_in : Members → Option ℕ
columns_in ms = option_and_then columns_from (option_and_then as_integer (value_in (codes "columns") ms))

-- two sheets' tables that have the same value at every key but "stations"
abbrev pub DifferInStations : Members → Members → Type 0
DifferInStations ms ns = (key : List ℕ) → key ≢ codes "stations" → get_member key ms ≡ get_member key ns
