-- The entry that corrects each entry, noted entry by entry.
use Rattle.std.proofs.Common.{◌≡◌, ℕ, ◌+◌, ◌<◌, ◌≤◌, List, Option, None, Some, length, drop, replicate, ap, ◌∙◌, arith, refl}
use Rattle.std.specs.Prelude.{get_or, slice_get}
use Rattle.std.proofs.lemmas.Bool.Decides.{nat_tests}
use Rattle.std.proofs.lemmas.List.{drop_all, get_or-replicate, get_or-set_other, get_or-set_same, length-replicate, length-set}
use Rattle.notation.specs.declared.entry.Entry.{Entry}
use Rattle.notation.specs.declared.entry.Entry.TheVariants.{Write, Fix, Late}
use Rattle.corrections.proofs.ListLemmas.{next}
use Rattle.corrections.specs.Corrected.{corrected_at, fix_or, last_fix}
use Rattle.desk_state.specs.inner.Corrected.{IsCorrectedBy, with_entry}

-- the places noted so far, completed by the rest of the book, are the places that the whole book gives
pub record Noting (book : List Entry) (k : ℕ) (by : List (Option ℕ)) : Type 0 where
  pub places : length by ≡ length book
  pub value : (p : ℕ) → p < length book → last_fix p k (get_or by p None) (drop k book) ≡ corrected_at book p

pub notes_none : (book : List Entry) (by : List (Option ℕ)) → by ≡ replicate (length book) None → Noting book 0 by
notes_none book by e = record {
  places = ap length e ∙ length-replicate (length book) None;
  value = λ p within. ap (λ o. last_fix p 0 o book) (ap (λ xs. get_or xs p None) e ∙ get_or-replicate (length book) p None None within);
}

noted : (k p : ℕ) (e : Entry) (by : List (Option ℕ)) → p < length by → get_or (with_entry k e by) p None ≡ fix_or p k (get_or by p None) e
noted k p (Write x) by within = refl
noted k p (Fix q x) by within = grind (arith, nat_tests, within, get_or-set_same by q (Some k) None, get_or-set_other by q p (Some k) None)
noted k p (Late q x) by within = refl

noted_places : (k : ℕ) (e : Entry) (by : List (Option ℕ)) → length (with_entry k e by) ≡ length by
noted_places k (Write x) by = refl
noted_places k (Fix q x) by = length-set by q (Some k)
noted_places k (Late q x) by = refl

pub notes_one : {book : List Entry} {k : ℕ} {by new : List (Option ℕ)} (e : Entry) → Noting book k by → slice_get book k ≡ Some e
    → new ≡ with_entry k e by → Noting book (k + 1) new
notes_one {book = book} {k = k} {by = by} e m here is = record {
  places = ap length is ∙ noted_places k e by ∙ m.places;
  value = λ p within.
      ap (λ o. last_fix p (k + 1) o (drop (k + 1) book)) (ap (λ xs. get_or xs p None) is ∙ noted k p e by (rw m.places within))
      ∙ (rw (next book k e here) at m.value p within);
}

pub notes_all : {book : List Entry} {k : ℕ} {by : List (Option ℕ)} → Noting book k by → length book ≤ k → IsCorrectedBy book by
notes_all {book = book} {k = k} m end = record { places = m.places; value = λ p within. rw (drop_all k book end) at m.value p within }
