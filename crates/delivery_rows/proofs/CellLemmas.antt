-- How spreadsheets and CSV readers take cells.
use Rattle.std.proofs.Common.{◌≡◌, ℕ, Bool, true, false, cond, List, [], ◌∷◌, ◌++◌, length, refl, ap, ◌∙◌, arith, inl, inr}
use Rattle.std.proofs.lemmas.Bool.{cases_Bool}
use Rattle.std.proofs.lemmas.Bool.Decides.{nat_tests}
use Rattle.csv.specs.Reading.{default_config, records_from}
use Rattle.csv.specs.Writing.{default_writer, row_text}
use Rattle.csv.specs.declared.parser.State.TheVariants as st
use Rattle.csv.proofs.RoundTrip as csv
use Rattle.delivery_rows.specs.Cells.{cell, is_formula, rows_text}
use Rattle.delivery_rows.specs.Laws.{ReadsBack, begins_formula}

-- a text that is no formula doesn't begin like one
begins_plain : (text : List ℕ) → is_formula text ≡ false → begins_formula text ≡ false
begins_plain [] plain = refl
begins_plain (c ∷ cs) plain = grind (arith, plain, nat_tests)

pub cell_is_plain : (text : List ℕ) → begins_formula (cell text) ≡ false
cell_is_plain text = elim (cases_Bool (is_formula text)) [
  | inl runs ↦ rw runs refl
  | inr plain ↦ rw plain (begins_plain text plain)
]

-- one more quote before a text leaves it a formula, or none
quoted_again : (text : List ℕ) → is_formula (39 ∷ text) ≡ is_formula text
quoted_again text = refl

tail_same : (s t : List ℕ) → (39 ∷ s) ≡ (39 ∷ t) → s ≡ t
tail_same s t e = cc e

cells_apart : (s t : List ℕ) (a b : Bool) → is_formula s ≡ a → is_formula t ≡ b → cond a (39 ∷ s) s ≡ cond b (39 ∷ t) t → s ≡ t
cells_apart s t true true x y e = tail_same s t e
cells_apart s t false false x y e = e
cells_apart s t true false x y e = cc (ap is_formula e, x, y, quoted_again s)
cells_apart s t false true x y e = cc (ap is_formula e, x, y, quoted_again t)

pub cells_are_apart : (s t : List ℕ) → cell s ≡ cell t → s ≡ t
cells_are_apart s t e = cells_apart s t (is_formula s) (is_formula t) refl refl e

same_text : (rows : List (List (List ℕ))) → rows_text rows ≡ csv.rows_text rows
unfolding rows_text csv.rows_text
same_text [] = refl
same_text (row ∷ rows) = ap (λ t. row_text default_writer row ++ t) (same_text rows)

pub reads_back : (rows : List (List (List ℕ))) → ReadsBack rows
reads_back rows = ap (records_from default_config (length rows) st.StartRecord) (same_text rows) ∙ csv.read-write-all rows
