-- Where two desks' votes differ, one more position at a time.
use Rattle.std.proofs.Common.{◌≡◌, ℕ, ◌+◌, ◌<◌, ◌≤◌, zero, suc, List, [], ◌++◌, append-nil, append_assoc, Bool, None, refl, sym, ◌∙◌, arith, add-one, inl, inr}
use Rattle.std.specs.Prelude.{IsTrue, ◌↔◌}
use Rattle.std.specs.Str.{bytes_eq}
use Rattle.std.proofs.lemmas.Bool.{cases_lt}
use Rattle.std.proofs.lemmas.Slice.Eq.{bytes_eq-Decides}
use Rattle.notation.specs.declared.entry.Entry.{Entry}
use Rattle.notation.specs.Written.{IsEntry, text_of}
use Rattle.notation.proofs.Texts.{text_once}
use Rattle.notation.specs.declared.entry.TheConstants.{PLACES}
use Rattle.agree_core.specs.declared.position.TheConstants.{ROUNDS}
use Rattle.agree_core.specs.Ballots.{AllVotes, IsSequence}
use Rattle.books.specs.Comparing.{difference_at, in_places, in_rounds}
use Rattle.books.specs.DeskVotes.{entry_at}
use Rattle.books.specs.declared.compare.Difference.{Difference}
use Rattle.books.proofs.EntriesAt.{none_after, none_from}

-- testing two entries for equality is testing their lines
pub alike : (r : Bool) (x y : Entry) → IsEntry x → IsEntry y → IsTrue r ↔ (x ≡ y) → r ≡ bytes_eq (text_of x) (text_of y)
alike r x y h k same = grind (arith, bytes_eq-Decides (text_of x) (text_of y), text_once x y h k)

-- if nothing is added from some place on, the differences up to that place are all
no_more : (f g : ℕ → List Difference) → ((n : ℕ) → f (suc n) ≡ f n ++ g n) → (k : ℕ) → ((n : ℕ) → k ≤ n → g n ≡ []) → (n : ℕ) → k ≤ n → f n ≡ f k
no_more f g next k none zero le = let same : k ≡ zero = omega arith in rw same refl
no_more f g next k none (suc n) le = elim (cases_lt n k) [
  | inl last ↦ let same : k ≡ suc n = omega (arith, last) in rw same refl
  | inr more ↦ rw (next n, none n more) (append-nil (f n) ∙ no_more f g next k none n more)
]

module _ (v : AllVotes) (place : ℕ) where
  in_rounds-next : (n : ℕ) → in_rounds v place (n + 1) ≡ in_rounds v place n ++ difference_at v place n
  unfolding in_rounds
  in_rounds-next n = rw (add-one) refl

  -- the differences that are added at a place, round by round
  pub added_none : (old : List Difference) → old ≡ old ++ in_rounds v place 0
  unfolding in_rounds
  added_none old = sym (append-nil old)

  pub added_next : (n : ℕ) (old mid new : List Difference) → mid ≡ old ++ in_rounds v place n → new ≡ mid ++ difference_at v place n →
      new ≡ old ++ in_rounds v place (n + 1)
  added_next n old mid new m e = grind (arith, append_assoc, in_rounds-next)

  module _ (s : IsSequence v.a) (t : IsSequence v.b) (round : ℕ) (a : entry_at v.a place round ≡ None) (b : entry_at v.b place round ≡ None) where
    -- if neither desk has a vote in a round, the rounds up to that round are all
    no_more_rounds : (n : ℕ) → round ≤ n → in_rounds v place n ≡ in_rounds v place round
    unfolding in_rounds
    no_more_rounds = no_more (in_rounds v place) (difference_at v place) (λ n. refl) round (λ n le. grind (arith, none_from v.a s place round n le a, none_from v.b t place round n le b))

    -- and the differences up to that round are all of the place
    pub added_all : (n : ℕ) (old new : List Difference) → round < n → new ≡ old ++ in_rounds v place (round + 1) → new ≡ old ++ in_rounds v place n
    added_all n old new less e = grind (arith, no_more_rounds (round + 1), no_more_rounds n)

pub placed_next : (v : AllVotes) (n : ℕ) (mid new : List Difference) → mid ≡ in_places v n → new ≡ mid ++ in_rounds v n ROUNDS → new ≡ in_places v (n + 1)
unfolding in_places
placed_next v n mid new m e = rw (add-one) (rw (← m) e)

module _ (v : AllVotes) (s : IsSequence v.a) (t : IsSequence v.b) where
  -- if neither desk has a vote at a place, the places up to that place are all
  no_more_places : (place : ℕ) → entry_at v.a place 0 ≡ None → entry_at v.b place 0 ≡ None → (n : ℕ) → place ≤ n → in_places v n ≡ in_places v place
  unfolding in_places in_rounds
  no_more_places place a b = no_more (in_places v) (λ n. in_rounds v n ROUNDS) (λ n. refl) place (λ n le.
      no_more_rounds v n s t 0 (none_after v.a s place n le a) (none_after v.b t place n le b) ROUNDS (omega arith))

  -- and the differences up to that place are all
  pub placed_all : (place : ℕ) (mid new : List Difference) → place < PLACES → entry_at v.a place 0 ≡ None → entry_at v.b place 0 ≡ None
      → mid ≡ in_places v place → new ≡ mid ++ in_rounds v place ROUNDS → new ≡ in_places v PLACES
  placed_all place mid new less a b m e =
      placed_next v place mid new m e ∙ no_more_places place a b (place + 1) (omega arith)
      ∙ sym (no_more_places place a b PLACES (omega arith))
