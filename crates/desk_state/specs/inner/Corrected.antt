-- Which entry of a book corrects which, place by place.
use Rattle.std.specs.Prelude.{◌≡◌, ℕ, ◌<◌, List, Option, Some, None, length, get_or, slice_set}
use Rattle.notation.specs.declared.entry.Entry.{Entry}
use Rattle.notation.specs.declared.entry.Entry.TheVariants.{Write, Fix, Late}
use Rattle.corrections.specs.Corrected.{corrected_at}

-- the list after the entry at place k
abbrev pub with_entry : ℕ → Entry → List (Option ℕ) → List (Option ℕ)
with_entry k (Write x) by = by
with_entry k (Fix q x) by = slice_set by q (Some k)
with_entry k (Late q x) by = by

-- for each place of a book, the place of the entry that corrects it
pub record IsCorrectedBy (book : List Entry) (by : List (Option ℕ)) : Type 0 where
  pub places : length by ≡ length book
  pub value : (p : ℕ) → p < length book → get_or by p None ≡ corrected_at book p
