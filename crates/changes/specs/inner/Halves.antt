-- The text of one stage in a row.
use Rattle.std.specs.Prelude.{ℕ, List}
use Rattle.cards.specs.Sheet.{Sheet}
use Rattle.changes.specs.declared.halves.Half.{Half}
use Rattle.changes.specs.Rows.{batting_text, bowling_text, figures_text, total_text}

abbrev pub half_text : Sheet → Half → List ℕ
half_text s (Half.Batting side row) = batting_text s side row
half_text s (Half.Figures row) = figures_text row
half_text s (Half.Bowling same row) = bowling_text same row
half_text s (Half.Total total) = total_text total
half_text s (Half.Words words) = words.now
