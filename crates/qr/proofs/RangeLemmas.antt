-- A range of numbers with one more number, and a test that all of them pass.
use Rattle.std.proofs.Common.{◌≡◌, ◌≢◌, ◌+◌, ◌<◌, ◌≤◌, ℕ, zero, suc, Bool, true, List, [], ◌∷◌, ◌++◌, ap, sym, subst, inl, inr, ◌∙◌, arith, add-one, zero-add}
use Rattle.std.specs.Prelude.{fold}
use Rattle.std.specs.List.{flat_map, list_all, range_with_len}
use Rattle.std.proofs.lemmas.List.{flat_map_more}
use Rattle.std.proofs.lemmas.List.FromFn.{get_or-range_with_len, length-range_with_len}
use Rattle.std.proofs.lemmas.List.Sums.{AllPass-from_list_all, fold_push}

pub range_more : (a n j : ℕ) → a + n ≡ j → range_with_len a (suc n) ≡ range_with_len a n ++ j ∷ []
range_more a zero j e = let same : a ≡ j = omega arith in ap (λ (x : ℕ). x ∷ []) same
range_more a (suc n) j e = ap (λ (l : List ℕ). a ∷ l) (range_more (a + 1) n j (omega arith))

range_next : (n : ℕ) → range_with_len 0 (n + 1) ≡ range_with_len 0 n ++ n ∷ []
range_next n = ap (range_with_len 0) (add-one n) ∙ range_more 0 n n (omega arith)

pub fold_range_more : {A : Type 0} (f : A → ℕ → A) (a : A) (n : ℕ) → fold f a (range_with_len 0 (n + 1)) ≡ f (fold f a (range_with_len 0 n)) n
fold_range_more f a n = ap (fold f a) (range_next n) ∙ fold_push f a (range_with_len 0 n) n

pub flat_map_range_more : {A : Type 0} (f : ℕ → List A) (n : ℕ) → flat_map f (range_with_len 0 (n + 1)) ≡ flat_map f (range_with_len 0 n) ++ f n
flat_map_range_more f n = ap (flat_map f) (range_next n) ∙ sym (flat_map_more f [] (range_with_len 0 n) n)

pub holds_at : (p : ℕ → Bool) (n j : ℕ) → j < n → list_all p (range_with_len 0 n) ≡ true → p j ≡ true
holds_at p n j low all =
    rw (get_or-range_with_len 0 n j 0 low, zero-add j) at (AllPass-from_list_all p (range_with_len 0 n) all j 0 (rw (length-range_with_len 0 n) low))
