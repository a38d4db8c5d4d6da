-- A list of entries is taken whole, or is refused first at one place.
use Rattle.std.proofs.Common.{arith, ◌≡◌, ◌≢◌, ◌⊎◌, ℕ, Option, None, List, [], ◌∷◌, ◌++◌, length, refl, ap, inl, inr, append-nil, append_assoc}
use Rattle.notation.specs.declared.entry.Entry.{Entry}
use Rattle.agree_core.specs.Books.{Rules, AllTaken, FirstRefused}

is_none : {Why : Type 0} (o : Option Why) → (o ≡ None) ⊎ (o ≢ None)
is_none o = grind arith

pub taken_or_refused : {Why : Type 0} (rules : Rules Why) (book xs : List Entry) → AllTaken rules book xs ⊎ ((place : ℕ) × FirstRefused rules book xs place)
taken_or_refused rules book [] = inl tt
taken_or_refused rules book (e ∷ es) =
    elim (is_none (rules book e)) [
      | inl n ↦ elim (taken_or_refused rules (book ++ e ∷ []) es) [ inl t ↦ inl (n, t) | inr r ↦ inr (r.0, inr (n, r.1)) ]
      | inr s ↦ inr (length book, inl (s, refl))
    ]

pub not_both : {Why : Type 0} (rules : Rules Why) (book xs : List Entry) (place : ℕ) → AllTaken rules book xs → FirstRefused rules book xs place → ⊥
not_both rules book [] place t r = r
not_both rules book (e ∷ es) place t r = grind (arith, not_both rules (book ++ e ∷ []) es place)

pub refused_once : {Why : Type 0} (rules : Rules Why) (book xs : List Entry) (p q : ℕ) → FirstRefused rules book xs p → FirstRefused rules book xs q → p ≡ q
refused_once rules book [] p q r s = absurd r
refused_once rules book (e ∷ es) p q r s = grind (arith, refused_once rules (book ++ e ∷ []) es p q)

-- a list that is taken is still taken with one more entry that may come next
pub taken_push : {Why : Type 0} (rules : Rules Why) (book xs : List Entry) (e : Entry) → AllTaken rules book xs
    → rules (book ++ xs) e ≡ None → AllTaken rules book (xs ++ e ∷ [])
taken_push rules book [] e t n = (rw append-nil at n, tt)
taken_push rules book (x ∷ xs) e t n = (t.0, taken_push rules (book ++ x ∷ []) xs e t.1 (rw append_assoc n))

-- an entry that may not come next is refused, whatever stands after it
pub refused_next : {Why : Type 0} (rules : Rules Why) (book xs : List Entry) (e : Entry) (rest : List Entry)
    → AllTaken rules book xs → rules (book ++ xs) e ≢ None → FirstRefused rules book (xs ++ e ∷ rest) (length (book ++ xs))
refused_next rules book [] e rest t n = inl (rw append-nil at n, ap length (append-nil book))
refused_next rules book (x ∷ xs) e rest t n = grind (arith, append_assoc, (refused_next rules (book ++ x ∷ []) xs e rest t.1 (rw append_assoc n)))
