-- All faults of a sheet, by its table. The first is the one by whose number the sheet is refused.
use Rattle.std.specs.Prelude.{ℕ, ◌+◌, ◌==◌, nat_le, ◌&&◌, Bool, true, false, pos, ℤ, List, [], ◌∷◌, ◌++◌, length, Option, Some, None, codes, decimal}
use Rattle.std.specs.List.{list_all}
use Rattle.toml.specs.Data.{Data, Items, no_items, item, Members, get_member, as_str, as_integer, as_array, as_table}
use Rattle.cards.specs.Reading.{count_of, greatest_game}
use Rattle.cards.specs.Sheet.{is_printable, longest_name, longest_title}
use Rattle.cards.specs.declared.fault.SheetFault.{SheetFault}
use Rattle.cards.specs.declared.fault.SheetFault.TheVariants.{MissingKey, WrongKind, BadText, BadNumber, NotEleven}
use Rattle.sheet_check.specs.Letters.{odd_letters, quoted}

-- a fault: its kind, which gives its number, and its words
pub record Fault : Type 0 where
  pub why : SheetFault
  pub words : List ℕ

-- a fault of this kind: where it is, and its words
abbrev pub at : SheetFault → List ℕ → List ℕ → Fault
at why place words = record { why = why; words = place ++ codes ": " ++ words }

-- no fault if this holds, else this fault
abbrev pub unless : Bool → Fault → List Fault
unless true fault = []
unless false fault = fault ∷ []

-- the faults of a text: it is empty, is longer than `most` bytes, or has letters that aren't plain
abbrev pub text_faults : ℕ → List ℕ → List ℕ → List Fault
text_faults most place text =
    unless (nat_le 1 (length text)) (at BadText place (codes "is empty"))
    ++ unless (nat_le (length text) most) (at BadText place (quoted text ++ codes ": longer than " ++ decimal most ++ codes " letters"))
    ++ unless (list_all is_printable text) (at BadText place (quoted text ++ codes ": " ++ odd_letters text ++ codes "isn't plain"))

-- the faults of a value that must be a text
abbrev pub text_or_kind : ℕ → List ℕ → Option (List ℕ) → List Fault
text_or_kind most place None = at WrongKind place (codes "isn't a text in quotes") ∷ []
text_or_kind most place (Some text) = text_faults most place text

-- the fault that a value is of another kind
abbrev pub kind : List ℕ → List ℕ → List Fault
kind place words = at WrongKind place words ∷ []

abbrev pub absent : List ℕ → List Fault
absent place = at MissingKey place (codes "isn't there") ∷ []

abbrev pub text_at : ℕ → List ℕ → Option Data → List Fault
text_at most place None = absent place
text_at most place (Some d) = text_or_kind most place (as_str d)

-- a number from low to high
abbrev pub is_from : ℕ → ℕ → ℤ → Bool
is_from low high (pos n) = nat_le low n && nat_le n high
is_from low high _ = false

abbrev pub number_or_kind : ℕ → ℕ → List ℕ → List ℕ → Option ℤ → List Fault
number_or_kind low high place words None = at WrongKind place (codes "isn't a whole number") ∷ []
number_or_kind low high place words (Some z) = unless (is_from low high z) (at BadNumber place words)

-- the fault of a value that must be a number; these words tell that it isn't from low to high
abbrev pub number_at : ℕ → ℕ → List ℕ → List ℕ → Option Data → List Fault
number_at low high place words None = absent place
number_at low high place words (Some d) = number_or_kind low high place words (as_integer d)

-- where a player is in the sheet: the side, and the player's number
abbrev pub player : List ℕ → ℕ → List ℕ
player side n = side ++ codes ", player " ++ decimal n

abbrev pub kind_faults : List ℕ → ℕ → Option (List ℕ) → List Fault
kind_faults side n None = at WrongKind (player side n) (codes "isn't a text in quotes") ∷ []
kind_faults side n (Some text) = []

-- the faults of the players from the n-th on that aren't texts
abbrev pub kinds_from : List ℕ → ℕ → Items → List Fault
kinds_from side n no_items = []
kinds_from side n (item d ds) = kind_faults side n (as_str d) ++ kinds_from side (n + 1) ds

abbrev pub name_faults : List ℕ → ℕ → Option (List ℕ) → List Fault
name_faults side n None = []
name_faults side n (Some text) = text_faults longest_name (player side n) text

-- the faults of the players from the n-th on whose texts aren't names
abbrev pub names_from : List ℕ → ℕ → Items → List Fault
names_from side n no_items = []
names_from side n (item d ds) = name_faults side n (as_str d) ++ names_from side (n + 1) ds

abbrev pub players : List ℕ → List ℕ
players side = side ++ codes ", players"

-- the fault that there aren't eleven players
abbrev pub count_faults : List ℕ → ℕ → List Fault
count_faults side n = unless (n == 11) (at NotEleven (players side) (codes "are " ++ decimal n ++ codes ", and not 11"))

abbrev pub players_or_kind : List ℕ → Option Items → List Fault
players_or_kind side None = at WrongKind (players side) (codes "aren't a list") ∷ []
players_or_kind side (Some ds) = count_faults side (count_of ds) ++ (kinds_from side 1 ds ++ names_from side 1 ds)

abbrev pub players_at : List ℕ → Option Data → List Fault
players_at side None = absent (players side)
players_at side (Some d) = players_or_kind side (as_array d)

-- the faults of a side: those of its name, and those of its players
abbrev pub side_or_kind : List ℕ → Option Members → List Fault
side_or_kind side None = at WrongKind side (codes "isn't a table") ∷ []
side_or_kind side (Some ms) =
    text_at longest_name (side ++ codes ", name") (get_member (codes "name") ms) ++ players_at side (get_member (codes "players") ms)

abbrev pub side_at : List ℕ → Option Data → List Fault
side_at side None = absent side
side_at side (Some d) = side_or_kind side (as_table d)

-- all faults of a sheet, key by key
abbrev pub faults : Members → List Fault
faults ms =
    text_at longest_title (codes "title") (get_member (codes "title") ms)
    ++ (number_at 0 greatest_game (codes "number") (codes "is below 0") (get_member (codes "number") ms)
    ++ (number_at 1 2 (codes "innings") (codes "isn't 1 or 2") (get_member (codes "innings") ms)
    ++ (side_at (codes "home") (get_member (codes "home") ms)
    ++ side_at (codes "away") (get_member (codes "away") ms))))

-- the kind of the first fault, which gives the number of the refusal
abbrev pub first_of : List Fault → Option SheetFault
first_of [] = None
first_of (fault ∷ more) = Some fault.why
