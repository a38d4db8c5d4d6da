-- The columns of places.
use Rattle.std.specs.Prelude.{ℕ, ◌-◌, List, decimal, length}
use Rattle.cards.specs.Columns.{spaces}

-- the blanks before a place, so that its number ends in the fourth column
abbrev pub place_columns : ℕ → List ℕ
place_columns place = spaces (4 - length (decimal place))
