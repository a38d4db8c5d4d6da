-- A row's text: that of its innings, its other cells, and a line feed.
use Rattle.std.proofs.Common.{◌≡◌, ℕ, ◌+◌, List, [], ◌∷◌, ◌++◌, Result, append_assoc}
use Rattle.std.specs.Prelude.{OnOk, decimal}
use Rattle.std.proofs.lemmas.Result.{on_ok_weaker}
use Rattle.notation.specs.declared.entry.Side.{Side}
use Rattle.match_laws.specs.History.{opponent}
use Rattle.cards.specs.Sheet.{Sheet, name_of}
use Rattle.csv.specs.Writing.{default_writer, field_text}
use Rattle.delivery_rows.specs.Cells.{cell, cells_text, rows_text}
use Rattle.delivery_rows.specs.Deliveries.{day_cells, head_text, innings_cells}
use Rattle.delivery_rows.proofs.Putting.{head_joined, row_joined}

module _ (s : Sheet) (day : List ℕ) (side : Side) (i : ℕ) where
  begins : (more : List (List ℕ)) → rows_text ((innings_cells s day side i ++ more) ∷ []) ≡ head_text s day side i ++ (cells_text more ++ 10 ∷ [])
  unfolding head_text
  begins more = row_joined (decimal s.game) (cell day) (decimal (i + 1) ∷ cell (name_of s side) ∷ cell (name_of s (opponent side)) ∷ []) more

  pub head_made : field_text default_writer (decimal s.game) ++ cells_text (day_cells s day side i) ≡ head_text s day side i
  unfolding head_text
  head_made = head_joined (decimal s.game) (day_cells s day side i)

  pub adds_row : (old one two new head : List ℕ) (more : List (List ℕ)) → head ≡ head_text s day side i → one ≡ old ++ head →
      two ≡ one ++ cells_text more → new ≡ two ++ 10 ∷ [] → new ≡ old ++ rows_text ((innings_cells s day side i ++ more) ∷ [])
  adds_row old one two new head more a b c d = rw (d, c, b, a, begins more) (simp append_assoc)

  pub ends_row : {T E : Type 0} (r : Result T E) (old one two new head : List ℕ) (more : List (List ℕ)) → head ≡ head_text s day side i →
      one ≡ old ++ head → two ≡ one ++ cells_text more → OnOk r (new ≡ two ++ 10 ∷ []) →
      OnOk r (new ≡ old ++ rows_text ((innings_cells s day side i ++ more) ∷ []))
  ends_row r old one two new head more a b c d = on_ok_weaker r (adds_row old one two new head more a b c) d
