-- The items that stand in a book that may not be legal, and a draft of a plan.
use Rattle.std.specs.Prelude.{◌≡◌, ℕ, ◌+◌, ◌<◌, ◌≤◌, Some, List, ◌++◌, All, length, slice_get}
use Rattle.notation.specs.declared.entry.TheConstants.{PLACES}
use Rattle.notation.specs.declared.entry.{Plain.Plain, Entry.Entry}
use Rattle.notation.specs.declared.entry.Entry.TheVariants.{Fix, Late}
use Rattle.corrections.specs.declared.placed.Placed.{Placed}
use Rattle.notation.specs.Written.{IsEntry}
use Rattle.corrections.specs.CleanList.{IsItemOf, clean_items_of}
use Rattle.plans.specs.Plans.{AreTaken}

-- each `fix` and each `late` names a place of the book, and these items stand in it
pub record IsStanding (book : List Entry) (items : List Placed) : Type 0 where
  pub fixes : (k q : ℕ) (y : Plain) → slice_get book k ≡ Some (Fix q y) → q < length book
  pub lates : (k q : ℕ) (y : Plain) → slice_get book k ≡ Some (Late q y) → q < length book
  pub stands : items ≡ clean_items_of book
  pub all_of : All (IsItemOf book) items

-- the book takes the lines one after another, and these items stand after them
pub record IsDraft (n : ℕ) (book lines : List Entry) (items : List Placed) : Type 0 where
  pub entries : All IsEntry lines
  pub taken : AreTaken n book lines
  pub room : length book + length lines ≤ PLACES
  pub standing : IsStanding (book ++ lines) items
