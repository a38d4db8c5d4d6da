-- The tables of a match: s is the sheet, and document the sheet's text as a TOML table.
use Rattle.std.specs.Prelude.{ℕ, List, ◌++◌}
use Rattle.notation.specs.declared.entry.Entry.{Entry}
use Rattle.ball_laws.specs.History.{History}
use Rattle.corrections.specs.CleanList.{history_of}
use Rattle.cards.specs.Sheet.{Sheet}
use Rattle.toml.specs.Data.{Members}
use Rattle.archive_deliveries.specs.declared.notes.Noted.{Noted}
use Rattle.export.specs.Laws.{noted_items}
use Rattle.delivery_rows.specs.declared.table.Table.{Table}
use Rattle.delivery_rows.specs.declared.table.Table.TheVariants.{Deliveries, Penalties}
use Rattle.delivery_rows.specs.Cells.{rows_text}
use Rattle.delivery_rows.specs.Day.{day_of}
use Rattle.delivery_rows.specs.Deliveries as deliveries
use Rattle.delivery_rows.specs.Deliveries.{all_rows}
use Rattle.delivery_rows.specs.Penalties as penalties
use Rattle.delivery_rows.specs.Penalties.{all_penalties}

-- the names of the table's columns
abbrev pub columns_of : Table → List ℕ
columns_of Deliveries = deliveries.columns
columns_of Penalties = penalties.columns

abbrev pub rows_of : Table → Sheet → List ℕ → History → List Noted → List (List (List ℕ))
rows_of Deliveries s day h xs = all_rows s day h xs
rows_of Penalties s day h xs = all_penalties s day h xs

-- a line with the names of the columns, and the rows
abbrev pub table_text : Table → Sheet → Members → List Entry → List ℕ
table_text table s document book =
    columns_of table ++ rows_text (rows_of table s (day_of document) (history_of book) (noted_items book))
