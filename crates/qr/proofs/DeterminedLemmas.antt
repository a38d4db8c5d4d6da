-- The codewords determine the modules.
use Rattle.std.proofs.Common.{◌≡◌, ◌<◌, ◌&&◌, ◌||◌, inl, inr, ℕ, zero, suc, Bool, true, false, cond, not, eqb, List, [], ◌∷◌, ◌++◌, map}
use Rattle.std.proofs.Common.{get_or, refl, ap, sym, subst, ◌∙◌, arith, add-one}
use Rattle.std.specs.Prelude.{All, Contains, nat_lt}
use Rattle.std.proofs.lemmas.Bool.{and_parts, cases_Bool, cases_eq, eqb-true, ltb-true}
use Rattle.std.proofs.lemmas.List.{ext_get_or}
use Rattle.std.proofs.lemmas.List.Elements.{All-cons, All-contains, All-nil, Contains-append_left, Contains-push}
use Rattle.qr.specs.Modules.{IsPlaced, data_places, is_data, masked, place, unmasked}
use Rattle.qr.proofs.PlacingLemmas.{masked_twice, places_more, places_next, step_of}
use Rattle.qr.proofs.RangeLemmas.{holds_at}

abbrev is_passed : ℕ → Bool
is_passed k = not (is_data k) || (eqb (place (step_of k)) k && nat_lt (step_of k) 1056)

-- the placement path reaches each data module
passed : (k : ℕ) → k < 1089 → is_data k ≡ true → (place (step_of k) ≡ k) × (step_of k < 1056)
passed k low one =
    let tested : is_passed k ≡ true = holds_at is_passed 1089 k low refl in
    let parts = and_parts (eqb (place (step_of k)) k) (nat_lt (step_of k) 1056) (rw one at tested) in
    (eqb-true (place (step_of k)) k parts.0, ltb-true (step_of k) 1056 parts.1)

has_place : (n s : ℕ) → s < n → is_data (place s) ≡ true → Contains (data_places n) (place s)
has_place zero s low one = let none : ⊥ = omega arith in absurd none
has_place (suc n) s low one =
    elim (cases_eq s n) [
      | inl same ↦
          let here : is_data (place n) ≡ true = ap (λ (x : ℕ). is_data (place x)) (sym same) ∙ one in
          subst (λ (l : List ℕ). Contains l (place s)) (sym (ap data_places (sym (add-one n)) ∙ places_more n here))
          (subst (λ (x : ℕ). Contains (data_places n ++ place n ∷ []) (place x)) (sym same) (Contains-push (data_places n) (place n)))
      | inr other ↦
          let before : s < n = omega arith in
          subst (λ (l : List ℕ). Contains l (place s)) (sym (ap data_places (sym (add-one n)) ∙ places_next n))
          (Contains-append_left (data_places n) (cond (is_data (place n)) (place n ∷ []) []) (place s) (has_place n s before one))
    ]

all_same : (f g : ℕ → Bool) (xs : List ℕ) → map f xs ≡ map g xs → All (λ x. f x ≡ g x) xs
all_same f g [] e = All-nil (λ (x : ℕ). f x ≡ g x)
all_same f g (x ∷ xs) e =
    All-cons (λ (x : ℕ). f x ≡ g x) x xs (cc) (all_same f g xs (cc))

same_data : (one other : List Bool) (n k : ℕ) → n ≡ 1056 → k < 1089 → is_data k ≡ true
    → map (unmasked one) (data_places n) ≡ map (unmasked other) (data_places n) → get_or one k false ≡ get_or other k false
same_data one other n k all low is_one same =
    let way = passed k low is_one in
    let before : step_of k < n = subst (λ (x : ℕ). step_of k < x) (sym all) way.1 in
    let there : Contains (data_places n) k =
    subst (λ (x : ℕ). Contains (data_places n) x) way.0 (has_place n (step_of k) before (ap is_data way.0 ∙ is_one)) in
    let equal : unmasked one k ≡ unmasked other k =
    All-contains (λ (x : ℕ). unmasked one x ≡ unmasked other x) (data_places n) k (all_same (unmasked one) (unmasked other) (data_places n) same) there in
    sym (masked_twice k _) ∙ ap (masked k) equal ∙ masked_twice k _

pub determined : (codewords : List ℕ) (one other : List Bool) → IsPlaced codewords one → IsPlaced codewords other → one ≡ other
determined codewords one other p q = ext_get_or false one other (p.whole ∙ sym q.whole) (λ k inside.
    let low : k < 1089 = omega (arith, p.whole) in
    elim (cases_Bool (is_data k)) [
      | inl is_one ↦ same_data one other 1056 k refl low is_one (p.bits ∙ sym q.bits)
      | inr fixed ↦ p.pattern k low fixed ∙ sym (q.pattern k low fixed)
    ])
