-- A plan: lines that a book takes one after another, and after which it has what is wanted.
use Rattle.std.specs.Prelude.{◌≡◌, ℕ, ◌+◌, ◌≤◌, Bool, true, false, Option, Some, None, List, ◌++◌, All, length, slice_get, take}
use Rattle.notation.specs.declared.entry.TheConstants.{PLACES}
use Rattle.notation.specs.declared.entry.Entry.{Entry}
use Rattle.notation.specs.declared.entry.Entry.TheVariants.{Write, Fix, Late}
use Rattle.notation.specs.Written.{IsEntry}
use Rattle.corrections.specs.CleanList.{history_of}
use Rattle.corrections.specs.Refusal.{book_refusal}

-- a `fix` may name an entry of play or a late one; a `late` an entry of play
abbrev pub can_be_fixed : Option Entry → Bool
can_be_fixed None = false
can_be_fixed (Some (Write x)) = true
can_be_fixed (Some (Fix p x)) = false
can_be_fixed (Some (Late p x)) = true

abbrev pub can_be_followed : Option Entry → Bool
can_be_followed None = false
can_be_followed (Some (Write x)) = true
can_be_followed (Some (Fix p x)) = false
can_be_followed (Some (Late p x)) = false

-- a `fix` or a `late` that names an entry of its kind
abbrev pub names : List Entry → Entry → Bool
names book (Write x) = false
names book (Fix p x) = can_be_fixed (slice_get book p)
names book (Late p x) = can_be_followed (slice_get book p)

-- a book with n innings a side takes each line after the lines before it
abbrev pub AreTaken : ℕ → List Entry → List Entry → Type 0
AreTaken n book lines =
    (k : ℕ) (e : Entry) → slice_get lines k ≡ Some e → book_refusal n (book ++ take k lines) e ≡ None

-- the book takes each line and has room for it; and with the lines the
-- Laws see the same history as with the wanted entries, all made at once
pub record IsPlan (n : ℕ) (book wanted lines : List Entry) : Type 0 where
  pub entries : All IsEntry lines
  pub taken : AreTaken n book lines
  pub room : length book + length lines ≤ PLACES
  pub same : history_of (book ++ lines) ≡ history_of (book ++ wanted)
