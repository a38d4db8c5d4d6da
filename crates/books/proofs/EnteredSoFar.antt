-- A list of entries given to a book one by one, up to the first that the book refuses.
use Rattle.std.proofs.Common.{◌≡◌, ◌≢◌, ◌<◌, ◌+◌, ℕ, List, [], ◌∷◌, ◌++◌, true, false, length, drop, get_or, None, Result, Ok, Err, append_assoc}
use Rattle.std.specs.Prelude.{is_err}
use Rattle.std.proofs.lemmas.List.{drop_more}
use Rattle.notation.specs.declared.entry.Entry.{Entry}
use Rattle.corrections.specs.declared.refusal.Refusal.{Refusal}
use Rattle.corrections.specs.Book.{Contents, IsEntered}
use Rattle.corrections.specs.Refusal.{book_refusal}
use Rattle.agree_core.specs.Books.{AllTaken, FirstRefused}
use Rattle.agree_core.proofs.Taken.{refused_next, taken_push}

-- these entries were taken, and are a beginning of the list
pub record Entered (innings : ℕ) (entries : List Entry) (i : ℕ) (book : Contents) : Type 0 where
  pub entered : book.entries ++ drop i entries ≡ entries
  pub taken : AllTaken (book_refusal innings) [] book.entries
  pub same_match : book.innings_a_side ≡ innings

module _
    {innings : ℕ} {entries : List Entry} {i : ℕ} {book : Contents} {e : Entry} (so_far : Entered innings entries i book)
    (less : i < length entries) (is : e ≡ get_or entries i e)
  where
    -- the rest begins with the next entry
    whole : book.entries ++ (e ∷ drop (i + 1) entries) ≡ entries
    whole = rw (drop_more entries i e less, ← is) at so_far.entered

    pub one_more : (now : Contents) (r : Result (Unit {0}) Refusal) → is_err r ≡ false → IsEntered r book now e → Entered innings entries (i + 1) now
    one_more now (Err why) ok h = absurd (cc)
    one_more now (Ok _) ok h = rw h.1 (record {
      entered = rw (append_assoc book.entries (e ∷ [])) whole;
      taken = taken_push (book_refusal innings) [] book.entries e so_far.taken (rw so_far.same_match at h.0);
      same_match = so_far.same_match;
    })

    pub refused : (now : Contents) (r : Result (Unit {0}) Refusal) (place : ℕ) → is_err r ≡ true → IsEntered r book now e → place ≡ length now.entries →
        FirstRefused (book_refusal innings) [] entries place
    refused now (Ok _) place bad h long = absurd (cc)
    refused now (Err why) place bad h long =
        let not : book_refusal innings book.entries e ≢ None = λ none. let fault = rw so_far.same_match at h.0 in (cc) in
        rw (long, h.1, ← whole) (refused_next (book_refusal innings) [] book.entries e (drop (i + 1) entries) so_far.taken not)
