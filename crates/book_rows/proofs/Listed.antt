-- An entry of a book's front is an entry of the book.
use Rattle.std.proofs.Common.{◌≡◌, ℕ, zero, suc, ◌<◌, List, [], ◌∷◌, take, arith}
use Rattle.std.specs.Prelude.{slice_get, Some}
use Rattle.notation.specs.declared.entry.Entry.{Entry}

pub taken : (book : List Entry) (stop k : ℕ) (e : Entry) → k < stop → slice_get book k ≡ Some e → slice_get (take stop book) k ≡ Some e
taken [] stop k e within here = cc
taken (x ∷ xs) zero k e within here = absurd (omega arith)
taken (x ∷ xs) (suc stop) zero e within here = here
taken (x ∷ xs) (suc stop) (suc k) e within here = taken xs stop k e (omega arith) here
