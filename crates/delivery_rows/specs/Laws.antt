-- The rows of deliveries, compared with the exported value.
use Rattle.std.specs.Prelude.{◌≡◌, ℕ, ◌+◌, Bool, false, List, [], ◌∷◌, ◌++◌, length, map, take, drop, codes, decimal}
use Rattle.notation.specs.declared.entry.Entry.{Entry}
use Rattle.ball_laws.specs.Sums.{tally}
use Rattle.match_laws.specs.Figures.{total}
use Rattle.match_laws.specs.History.{side_of}
use Rattle.corrections.specs.CleanList.{history_of}
use Rattle.cards.specs.Sheet.{Sheet}
use Rattle.json.specs.Json.{Json, number, string}
use Rattle.csv.specs.Reading.{default_config, records_from}
use Rattle.csv.specs.Writing.{read_back}
use Rattle.csv.specs.declared.parser.State.TheVariants as st
use Rattle.export.specs.Laws.{at, deliveries_in, innings_at, noted_items}
use Rattle.delivery_rows.specs.Cells.{cell, is_sign, rows_text}
use Rattle.delivery_rows.specs.Deliveries.{innings_rows}
use Rattle.delivery_rows.specs.Penalties.{award_rows, innings_penalties}

-- ---- a row for each delivery of the exported value, and no other row

-- the cell of a name, or an empty cell if the value is no text
abbrev pub name_in : Json → List ℕ
name_in (string name) = cell name
name_in _ = []

-- a figure, or 0 if the value is no number
abbrev pub figure_in : Json → List ℕ
figure_in (number text) = text
figure_in _ = codes "0"

-- the facts of an exported delivery: the batters, the bowler, its runs, and its extras by kind
abbrev pub told_in : Json → List (List ℕ)
told_in delivery =
    let runs = at (codes "runs") delivery in
    let extras = at (codes "extras") delivery in
    name_in (at (codes "batter") delivery) ∷ name_in (at (codes "non_striker") delivery) ∷ name_in (at (codes "bowler") delivery)
    ∷ figure_in (at (codes "batter") runs) ∷ figure_in (at (codes "extras") runs) ∷ figure_in (at (codes "total") runs)
    ∷ figure_in (at (codes "wides") extras) ∷ figure_in (at (codes "noballs") extras)
    ∷ figure_in (at (codes "byes") extras) ∷ figure_in (at (codes "legbyes") extras) ∷ figure_in (at (codes "penalty") extras) ∷ []

-- the columns of a row with these facts, from `striker` to `penalty`
abbrev pub told_by : List (List ℕ) → List (List ℕ)
told_by row = take 11 (drop 8 row)

-- the rows of innings i of a book
abbrev pub rows_at : Sheet → List ℕ → List Entry → ℕ → List (List (List ℕ))
rows_at s day book i = innings_rows s day (history_of book) (noted_items book) i

-- the rows are the exported deliveries, one by one and in order
abbrev pub RowsAreDeliveries : Sheet → List ℕ → List Entry → Type 0
RowsAreDeliveries s day book = (i : ℕ) → map told_by (rows_at s day book i) ≡ map told_in (deliveries_in (innings_at s book i))

-- ---- sums

-- the column `total`
abbrev pub total_by : List (List ℕ) → List (List ℕ)
total_by row = take 1 (drop 13 row)

-- the totals of the rows of an innings, and its penalty runs in the other table, add up to n
pub record RowsAddUpTo (s : Sheet) (day : List ℕ) (book : List Entry) (i n : ℕ) : Type 0 where
  pub totals : List ℕ
  pub before : ℕ
  pub after : ℕ
  pub each : map total_by (rows_at s day book i) ≡ map (λ k. decimal k ∷ []) totals
  pub awards : innings_penalties s day (history_of book) (noted_items book) i
      ≡ award_rows s day (side_of (history_of book) i) i (codes "pre") before
      ++ award_rows s day (side_of (history_of book) i) i (codes "post") after
  pub sum : tally (λ k. k) totals + before + after ≡ n

-- the rows of an innings add up to its total
abbrev pub RowsAddUp : Sheet → List ℕ → List Entry → Type 0
RowsAddUp s day book = (i : ℕ) → RowsAddUpTo s day book i (total (history_of book) i)

-- ---- how spreadsheets and CSV readers take cells

abbrev pub begins_formula : List ℕ → Bool
begins_formula [] = false
begins_formula (c ∷ cs) = is_sign c

-- a CSV reader reads the rows back from their text
abbrev pub ReadsBack : List (List (List ℕ)) → Type 0
ReadsBack rows = records_from default_config (length rows) st.StartRecord (rows_text rows) ≡ map read_back rows
