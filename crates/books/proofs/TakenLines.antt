-- Lines that are taken one after the other, up to the first that isn't.
use Rattle.std.proofs.Common.{◌≡◌, ◌+◌, ℕ, Some, List, [], ◌∷◌, length, length-append, refl, sym, arith, Err}
use Rattle.std.specs.Prelude.{IsOk}
use Rattle.notation.specs.declared.entry.Entry.{Entry}
use Rattle.notation.specs.Lines.{lines_of}
use Rattle.books.specs.declared.rejected.Rejected.{Rejected}
use Rattle.books.specs.CardBook.{IsBookOfLines, first_rejected}
use Rattle.books.specs.Taking.{answer_to, book_after, with_taken}

-- the remaining lines, after the entries taken so far, give the same result as the whole input
pub record Midway (innings : ℕ) (input : List ℕ) (lines : List (List ℕ)) (number : ℕ) (book : List Entry) : Type 0 where
  pub numbered : number + length lines ≡ length (lines_of input)
  pub long : length book ≡ number
  pub taken : book_after innings book lines ≡ book_after innings [] (lines_of input)
  pub rejected : first_rejected innings (number + 1) book lines ≡ first_rejected innings 1 [] (lines_of input)

pub begins : (innings : ℕ) (input : List ℕ) (lines : List (List ℕ)) (book : List Entry) → lines ≡ lines_of input → book ≡ [] → Midway innings input lines 0 book
begins innings input lines book e none = rw (e, none) (record { numbered = omega arith; long = refl; taken = refl; rejected = refl })

module _ (innings : ℕ) (input line : List ℕ) (rest : List (List ℕ)) (number : ℕ) (book : List Entry) (m : Midway innings input (line ∷ rest) number book) where
  -- the line is taken too
  pub goes_on : (n : ℕ) (new : List Entry) → n ≡ innings → IsOk (answer_to n book line) → new ≡ with_taken (answer_to n book line) book → Midway innings input rest (number + 1) new
  goes_on n new same ok taken = record {
    numbered = omega (arith, m.numbered);
    long = grind (arith, m.long, length-append book);
    taken = grind (arith, m.taken);
    rejected = grind (arith, m.rejected);
  }

  -- the line isn't taken: then it is the first that isn't
  pub first_refused : (n : ℕ) (why : Rejected) → n ≡ innings → answer_to n book line ≡ Err why → first_rejected innings 1 [] (lines_of input) ≡ Some (number + 1, why)
  first_refused n why same e = sym (rw (rw same at e, first_rejected) at m.rejected)

pub ends : (innings : ℕ) (input : List ℕ) (lines : List (List ℕ)) (number : ℕ) (book : List Entry) → lines ≡ [] → Midway innings input lines number book → IsBookOfLines innings input book
ends innings input lines number book none m = let l = rw none at m in record { taken = sym l.rejected; entries = l.taken }
