-- Each entry of a book stands once, at its place.
use Rattle.std.proofs.Common.{◌≡◌, ℕ, zero, suc, ◌<◌, ◌≤◌, List, length, Some, refl, arith, length-append}
use Rattle.std.proofs.lemmas.Bool.{cases_lt}
use Rattle.std.specs.Prelude.{slice_get}
use Rattle.std.proofs.lemmas.Option.{slice_get_cases, slice_get_within}
use Rattle.notation.specs.declared.entry.Entry.{Entry}
use Rattle.corrections.proofs.LegalLemmas.{slice_get-append_left, slice_get-last}
use Rattle.json.specs.Json.{Json}
use Rattle.json_fields.specs.Values.{up_to}
use Rattle.export.specs.Entries.{entry_at, entry_of}
use Rattle.export.specs.Laws.{HasEachEntry}

abbrev at : List Entry → ℕ → List Json
at book p = entry_at book p (slice_get book p)

count : (book : List Entry) (n : ℕ) → n ≤ length book → length (up_to (at book) n) ≡ n
unfolding up_to
count book zero le = refl
count book (suc n) le =
    grind (arith, count book n, (slice_get_cases book n).1, length-append (up_to (at book) n) (at book n))

each : (book : List Entry) (n p : ℕ) (e : Entry) → n ≤ length book → p < n → slice_get book p ≡ Some e →
    slice_get (up_to (at book) n) p ≡ Some (entry_of book p e)
unfolding up_to
each book zero p e le lt is = absurd (omega arith)
each book (suc n) p e le lt is =
    grind (
      arith,
      cases_lt p n,
      count book n,
      each book n p e,
      slice_get-append_left (up_to (at book) n) (at book n) p,
      slice_get-last (up_to (at book) n) (entry_of book p e),
    )

pub has_each : (book : List Entry) → HasEachEntry book
has_each book = record {
  count = count book (length book) (omega arith);
  each = λ p e is. each book (length book) p e (omega arith) (slice_get_within book p e is) is;
}
