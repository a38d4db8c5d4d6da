-- The side names of an export: those of the sheet, told apart if both are equal.
use Rattle.std.specs.Prelude.{◌≢◌, List, ℕ, ◌++◌, if◌then◌else◌, bytes_eq, codes}
use Rattle.notation.specs.declared.entry.Side.{Side}
use Rattle.notation.specs.declared.entry.Side.TheVariants.{Home, Away}
use Rattle.cards.specs.Sheet.{Sheet, name_of}

-- the word appended to the side's name
abbrev pub mark_of : Side → List ℕ
mark_of Home = codes " (home)"
mark_of Away = codes " (away)"

-- the side's name, with its word appended if the other side has the same name
abbrev pub name_in : Sheet → Side → List ℕ
name_in s side = if bytes_eq s.home.name s.away.name then name_of s side ++ mark_of side else name_of s side

-- the sheet with these side names
abbrev pub told_apart : Sheet → Sheet
told_apart s = record {
  title = s.title;
  game = s.game;
  innings = s.innings;
  home = record { name = name_in s Home; players = s.home.players };
  away = record { name = name_in s Away; players = s.away.players };
  limits = s.limits;
  columns = s.columns;
}

-- the two sides of an export have different names
abbrev pub NamesTwoSides : Sheet → Type 0
NamesTwoSides s = name_in s Home ≢ name_in s Away
