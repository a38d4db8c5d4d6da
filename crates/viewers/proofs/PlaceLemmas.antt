-- Who is dropped, place after place.
use Rattle.std.proofs.Common.{◌≡◌, ◌≢◌, ◌∙◌, ◌<◌, ◌≤◌, ◌+◌, ◌==◌, ℕ, Bool, true, false, List, Option, None, length, get_or, nat_lt, arith, refl, ap}
use Rattle.std.proofs.lemmas.Bool.Decides.{nat_tests}
use Rattle.std.proofs.lemmas.List.{get_or_past}
use Rattle.viewers.specs.Places.{KeepsOthers, KeepsThose}

same_places : (n m : ℕ) → (n == m) ≡ true → n ≡ m
same_places n m e = grind (arith, nat_tests, e)

other_places : (n m : ℕ) → (n == m) ≡ false → n ≢ m
other_places n m e = λ s. grind (arith, nat_tests, e, s)

module _ {V : Type 0} where
  -- one more place that fails the test
  pub gone_more : (test : Option V → Bool) (n : ℕ) (old new : List (Option V))
      → ((k : ℕ) → k < n → test (get_or old k None) ≡ false) → test (get_or new n None) ≡ false → KeepsOthers n old new
      → (k : ℕ) → k < n + 1 → test (get_or new k None) ≡ false
  gone_more test n old new before here others k less = by_test (k == n) refl
    where
      by_test : (b : Bool) → (k == n) ≡ b → test (get_or new k None) ≡ false
      by_test true e = ap (λ i. test (get_or new i None)) (same_places k n e) ∙ here
      by_test false e =
          let differs = other_places k n e in
          ap test (others k differs) ∙ before k (by_less differs)
        where
          by_less : k ≢ n → k < n
          by_less differs = grind (arith, less, differs)

  -- the places that pass the test are kept, at one more place
  pub keeps_more : (test : Option V → Bool) (first old new : List (Option V)) → KeepsThose test first old → KeepsThose test old new
      → KeepsThose test first new
  keeps_more test first old new before more k holds =
      let same = before k holds in
      more k (ap test same ∙ holds) ∙ same

  -- beyond the last place there was nobody, and is nobody
  pub gone_at_all : (test keeps : Option V → Bool) (n : ℕ) (first slots : List (Option V)) → length first ≤ n
      → test None ≡ false → keeps None ≡ true → KeepsThose keeps first slots
      → ((k : ℕ) → k < n → test (get_or slots k None) ≡ false) → (k : ℕ) → test (get_or slots k None) ≡ false
  gone_at_all test keeps n first slots short none stays kept before k = by_test (nat_lt k n) refl
    where
      within : nat_lt k n ≡ true → k < n
      within e = grind (arith, nat_tests, e)

      past : nat_lt k n ≡ false → length first ≤ k
      past e = let beyond : n ≤ k = grind (arith, nat_tests, e) in omega (arith, beyond, short)

      by_test : (b : Bool) → nat_lt k n ≡ b → test (get_or slots k None) ≡ false
      by_test true e = before k (within e)
      by_test false e =
          let nobody = get_or_past first k None (past e) in
          ap test (kept k (ap keeps nobody ∙ stays) ∙ nobody) ∙ none
