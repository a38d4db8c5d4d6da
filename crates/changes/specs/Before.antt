-- A book before its last entry.
use Rattle.std.specs.Prelude.{◌≡◌, ℕ, ◌-◌, nat_lt, if◌then◌else◌, Bool, true, false, Option, Some, None, List, [], ◌∷◌, ◌++◌, length, slice_get, take}
use Rattle.notation.specs.declared.entry.{Plain.Plain, Entry.Entry}
use Rattle.notation.specs.declared.entry.Entry.TheVariants.{Write, Fix, Late}
use Rattle.corrections.specs.CleanList.{fixed, history_of}
use Rattle.corrections.specs.Refusal.{book_refusal}

abbrev pub last_of : List Entry → Option Entry
last_of book = slice_get book (length book - 1)

-- all entries but the last
abbrev pub before : List Entry → List Entry
before book = take (length book - 1) book

-- the entry is a `fix` or a `late`
abbrev pub is_correction : Option Entry → Bool
is_correction None = false
is_correction (Some (Write x)) = false
is_correction (Some (Fix p x)) = true
is_correction (Some (Late p x)) = true

-- the item that was entered
abbrev pub entered : Option Entry → Plain
entered None = Plain.Void
entered (Some (Write x)) = x
entered (Some (Fix p x)) = x
entered (Some (Late p x)) = x

-- what stands at a place: the item that the last `fix` of it puts there, or else the item that was entered
abbrev pub stands_at : List Entry → ℕ → Plain
stands_at book p = fixed book p (entered (slice_get book p))

-- what would stand at a place after this entry, which may be at that place itself
abbrev pub item_with : List Entry → Entry → ℕ → Plain
item_with book e p = if nat_lt p (length book) then fixed (e ∷ []) p (stands_at book p) else entered (Some e)

-- the book takes the entry, and then the items that stood before its last entry stand again
pub record TakesBack (n : ℕ) (book : List Entry) (e : Entry) : Type 0 where
  pub taken : book_refusal n book e ≡ None
  pub same : history_of (book ++ e ∷ []) ≡ history_of (before book)
