-- Codewords followed by their error correction codewords have the roots that a reader tests for.
use Rattle.std.proofs.Common.{◌≡◌, ◌+◌, ◌*◌, ◌-◌, ◌/◌, ◌%◌, ◌^◌, ◌<◌, ◌≤◌, inl, inr, ℕ, zero, suc, Bool, true, List, [], ◌∷◌, ◌++◌, map}
use Rattle.std.proofs.Common.{length, get_or, replicate, refl, ap, sym, subst, ◌∙◌, arith, eqb, add-one, bit_xor}
use Rattle.std.specs.Prelude.{nat_lt, fold, All}
use Rattle.std.specs.Int.Bits.{xor_assoc, xor_self, xor_zero_l}
use Rattle.std.specs.List.{list_all, range_with_len}
use Rattle.std.proofs.lemmas.Bool.{cases_lt, eqb-true, ltb-true}
use Rattle.std.proofs.lemmas.List.{get_or-map, length-map, length_push}
use Rattle.std.proofs.lemmas.List.Elements.{All-head, All-tail}
use Rattle.std.proofs.lemmas.List.FromFn.{fill_by_all}
use Rattle.std.proofs.lemmas.List.Sums.{fold-append, fold_push}
use Rattle.std.proofs.lemmas.Nat.{xor_block, xor_comm, xor_mod, xor_of_8, xor_shr}
use Rattle.qr.specs.Check.{check_codewords, coefficient, divided, doubled, times, times_bit}
use Rattle.qr.specs.declared.check.TheConstants.{GENERATOR}
use Rattle.qr.specs.Roots.{HasRoots, next, times_power}
use Rattle.qr.proofs.RangeLemmas.{holds_at}

-- each number is an element of the field
abbrev pub Bytes : List ℕ → Type 0
Bytes [] = Unit {0}
Bytes (x ∷ xs) = (x < 256) × Bytes xs

xor_crossed : (a b c d : ℕ) → bit_xor (bit_xor a b) (bit_xor c d) ≡ bit_xor (bit_xor a c) (bit_xor b d)
xor_crossed a b c d = grind (arith, xor_assoc, xor_comm)

-- twice an element, by its lower bits and its highest bit
abbrev doubled_parts : ℕ → ℕ
doubled_parts a = bit_xor (2 * (a % 128)) (a / 128 * 29)

doubled_is : (a : ℕ) → a < 256 → doubled a ≡ doubled_parts a
doubled_is a low = eqb-true (doubled a) (doubled_parts a) (holds_at (λ (x : ℕ). eqb (doubled x) (doubled_parts x)) 256 a low refl)

twice_sum : (a b : ℕ) → 2 * bit_xor a b ≡ bit_xor (2 * a) (2 * b)
twice_sum a b = grind (arith, xor_block 1 a b 0 0)

highest_sum : (a b : ℕ) → a < 2 → b < 2 → bit_xor a b * 29 ≡ bit_xor (a * 29) (b * 29)
highest_sum zero b low_a low_b = refl
highest_sum (suc zero) zero low_a low_b = refl
highest_sum (suc zero) (suc zero) low_a low_b = refl
highest_sum (suc zero) (suc (suc b)) low_a low_b = let none : ⊥ = omega arith in absurd none
highest_sum (suc (suc a)) b low_a low_b = let none : ⊥ = omega arith in absurd none

doubled_sum : (a b : ℕ) → a < 256 → b < 256 → doubled (bit_xor a b) ≡ bit_xor (doubled a) (doubled b)
doubled_sum a b low_a low_b =
    rw (
      doubled_is (bit_xor a b) (xor_of_8 a b low_a low_b),
      doubled_is a low_a,
      doubled_is b low_b,
      xor_mod a b 7,
      xor_shr a b 7,
      twice_sum (a % 128) (b % 128),
      highest_sum (a / 128) (b / 128) (omega arith) (omega arith),
    )
    (xor_crossed (2 * (a % 128)) (2 * (b % 128)) (a / 128 * 29) (b / 128 * 29))

doubled_low : (a : ℕ) → a < 256 → doubled a < 256
doubled_low a low = ltb-true (doubled a) 256 (holds_at (λ (x : ℕ). nat_lt (doubled x) 256) 256 a low refl)

power_low : (j a : ℕ) → a < 256 → times_power j a < 256
power_low zero a low = low
power_low (suc j) a low = doubled_low (times_power j a) (power_low j a low)

power_sum : (j a b : ℕ) → a < 256 → b < 256 → times_power j (bit_xor a b) ≡ bit_xor (times_power j a) (times_power j b)
power_sum zero a b low_a low_b = refl
power_sum (suc j) a b low_a low_b = grind (arith, doubled_sum, power_low, power_sum j a b low_a low_b)

power_zero : (j : ℕ) → times_power j 0 ≡ 0
power_zero zero = refl
power_zero (suc j) = ap doubled (power_zero j)

next_low : (j a c : ℕ) → a < 256 → c < 256 → next j a c < 256
next_low j a c low_a low_c = xor_of_8 (times_power j a) c (power_low j a low_a) low_c

-- the sum of two polynomials, coefficient by coefficient
abbrev pub added : List ℕ → List ℕ → List ℕ
added [] ys = []
added (x ∷ xs) [] = []
added (x ∷ xs) (y ∷ ys) = bit_xor x y ∷ added xs ys

length-added : (xs ys : List ℕ) → length xs ≡ length ys → length (added xs ys) ≡ length xs
length-added [] ys e = refl
length-added (x ∷ xs) [] e = let none : ⊥ = omega arith in absurd none
length-added (x ∷ xs) (y ∷ ys) e = let rest : length xs ≡ length ys = omega arith in ap (λ (n : ℕ). suc n) (length-added xs ys rest)

get_or-added : (xs ys : List ℕ) (k : ℕ) → length xs ≡ length ys → get_or (added xs ys) k 0 ≡ bit_xor (get_or xs k 0) (get_or ys k 0)
get_or-added [] [] k e = refl
get_or-added [] (y ∷ ys) k e = let none : ⊥ = omega arith in absurd none
get_or-added (x ∷ xs) [] k e = let none : ⊥ = omega arith in absurd none
get_or-added (x ∷ xs) (y ∷ ys) zero e = refl
get_or-added (x ∷ xs) (y ∷ ys) (suc k) e = let rest : length xs ≡ length ys = omega arith in get_or-added xs ys k rest

added_low : (xs ys : List ℕ) → Bytes xs → Bytes ys → Bytes (added xs ys)
added_low [] ys low_x low_y = tt
added_low (x ∷ xs) [] low_x low_y = tt
added_low (x ∷ xs) (y ∷ ys) low_x low_y = (xor_of_8 x y low_x.0 low_y.0, added_low xs ys low_x.1 low_y.1)

-- the value of a sum is the sum of the values
value_sum : (j a b : ℕ) (xs ys : List ℕ) → a < 256 → b < 256 → Bytes xs → Bytes ys → length xs ≡ length ys
    → fold (next j) (bit_xor a b) (added xs ys) ≡ bit_xor (fold (next j) a xs) (fold (next j) b ys)
value_sum j a b [] [] low_a low_b low_x low_y e = refl
value_sum j a b [] (y ∷ ys) low_a low_b low_x low_y e = let none : ⊥ = omega arith in absurd none
value_sum j a b (x ∷ xs) [] low_a low_b low_x low_y e = let none : ⊥ = omega arith in absurd none
value_sum j a b (x ∷ xs) (y ∷ ys) low_a low_b low_x low_y e =
    let rest : length xs ≡ length ys = omega arith in
    let here : next j (bit_xor a b) (bit_xor x y) ≡ bit_xor (next j a x) (next j b y) =
    rw (power_sum j a b low_a low_b) (xor_crossed (times_power j a) (times_power j b) x y) in
    ap (λ (v : ℕ). fold (next j) v (added xs ys)) here
    ∙ value_sum j (next j a x) (next j b y) xs ys (next_low j a x low_a low_x.0) (next_low j b y low_b low_y.0) low_x.1 low_y.1 rest

-- products are elements
bit_low : (a b product k : ℕ) → a < 256 → product < 256 → times_bit a b product k < 256
unfolding times_bit
bit_low a b product k low_a low = grind (arith, xor_of_8, doubled_low)

bits_low : (a b product : ℕ) (ks : List ℕ) → a < 256 → product < 256 → fold (times_bit a b) product ks < 256
bits_low a b product [] low_a low = low
bits_low a b product (k ∷ ks) low_a low = bits_low a b (times_bit a b product k) ks low_a (bit_low a b product k low_a low)

products_low : (a : ℕ) (bs : List ℕ) → a < 256 → Bytes (map (times a) bs)
products_low a [] low = tt
products_low a (b ∷ bs) low = (bits_low a b 0 (range_with_len 0 8) low (omega arith), products_low a bs low)

-- the product of a sum is the sum of the products, and a multiple of the generator likewise
bit_sum : (a b c p q k : ℕ) → p < 256 → q < 256
    → times_bit (bit_xor a b) c (bit_xor p q) k ≡ bit_xor (times_bit a c p k) (times_bit b c q k)
unfolding times_bit
bit_sum a b c p q k low_p low_q = grind (arith, doubled_sum, xor_crossed)

times_sum_bits : (a b c p q : ℕ) (ks : List ℕ) → a < 256 → b < 256 → p < 256 → q < 256
    → fold (times_bit (bit_xor a b) c) (bit_xor p q) ks ≡ bit_xor (fold (times_bit a c) p ks) (fold (times_bit b c) q ks)
times_sum_bits a b c p q [] low_a low_b low_p low_q = refl
times_sum_bits a b c p q (k ∷ ks) low_a low_b low_p low_q =
    rw (bit_sum a b c p q k low_p low_q)
    (times_sum_bits a b c (times_bit a c p k) (times_bit b c q k) ks low_a low_b (bit_low a c p k low_a low_p) (bit_low b c q k low_b low_q))

products_sum : (a b : ℕ) (cs : List ℕ) → a < 256 → b < 256 → map (times (bit_xor a b)) cs ≡ added (map (times a) cs) (map (times b) cs)
products_sum a b [] low_a low_b = refl
products_sum a b (c ∷ cs) low_a low_b =
    let one = times_sum_bits a b c 0 0 (range_with_len 0 8) low_a low_b (omega arith) (omega arith) in
    let more = products_sum a b cs low_a low_b in
    λ i. one i ∷ more i

-- the value of a multiple of the generator
multiple : ℕ → ℕ → ℕ
multiple j a = fold (next j) a (map (times a) GENERATOR)

multiple_sum : (j a b : ℕ) → a < 256 → b < 256 → multiple j (bit_xor a b) ≡ bit_xor (multiple j a) (multiple j b)
unfolding multiple
multiple_sum j a b low_a low_b =
    ap (fold (next j) (bit_xor a b)) (products_sum a b GENERATOR low_a low_b)
    ∙ value_sum j a b (map (times a) GENERATOR) (map (times b) GENERATOR) low_a low_b (products_low a GENERATOR low_a) (products_low b GENERATOR low_b)
    (length-map GENERATOR (times a) ∙ sym (length-map GENERATOR (times b)))

powers_of_2 : list_all (λ (j : ℕ). list_all (λ (k : ℕ). eqb (multiple j (2 ^ k)) 0) (range_with_len 0 8)) (range_with_len 0 20) ≡ true
unfolding multiple times_bit
powers_of_2 = refl

power_of_2 : (j k : ℕ) → j < 20 → k < 8 → multiple j (2 ^ k) ≡ 0
power_of_2 j k low_j low_k =
    eqb-true _ _ (holds_at (λ (k : ℕ). eqb (multiple j (2 ^ k)) 0) 8 k low_k
    (holds_at (λ (j : ℕ). list_all (λ (k : ℕ). eqb (multiple j (2 ^ k)) 0) (range_with_len 0 8)) 20 j low_j powers_of_2))

multiple_none : (j : ℕ) → multiple j 0 ≡ 0
multiple_none j = multiple_sum j 0 0 (omega arith) (omega arith) ∙ xor_self (multiple j 0)

-- one more bit of the factor
one_bit_more : (j : ℕ) → j < 20 → (k : ℕ) → k < 8 → 2 ^ k + 2 ^ k ≤ 256 → ((b : ℕ) → b < 2 ^ k → multiple j b ≡ 0)
    → (a : ℕ) → a < 2 ^ k + 2 ^ k → multiple j a ≡ 0
one_bit_more j low_j k low_k fits below a low_a =
    elim (cases_lt a (2 ^ k)) [
      | inl under ↦ below a under
      | inr above ↦
          let low : a - 2 ^ k < 2 ^ k = omega arith in
          let some : 0 < 2 ^ k = omega arith in
          let parts : a ≡ bit_xor (2 ^ k) (a - 2 ^ k) = grind (arith, xor_block k 1 0 0 (a - 2 ^ k) some low) in
          ap (multiple j) parts ∙ rw (multiple_sum j (2 ^ k) (a - 2 ^ k) (omega arith) (omega arith), power_of_2 j k low_j low_k, xor_zero_l) (below (a - 2 ^ k) low)
    ]

multiple_zero : (j : ℕ) → j < 20 → (a : ℕ) → a < 256 → multiple j a ≡ 0
multiple_zero j low_j =
    let none : (b : ℕ) → b < 1 → multiple j b ≡ 0 = λ b low_b. let e : b ≡ 0 = omega arith in ap (multiple j) e ∙ multiple_none j in
    let to_2 : (b : ℕ) → b < 2 → multiple j b ≡ 0 = one_bit_more j low_j 0 (omega arith) (omega arith) none in
    let to_4 : (b : ℕ) → b < 4 → multiple j b ≡ 0 = one_bit_more j low_j 1 (omega arith) (omega arith) to_2 in
    let to_8 : (b : ℕ) → b < 8 → multiple j b ≡ 0 = one_bit_more j low_j 2 (omega arith) (omega arith) to_4 in
    let to_16 : (b : ℕ) → b < 16 → multiple j b ≡ 0 = one_bit_more j low_j 3 (omega arith) (omega arith) to_8 in
    let to_32 : (b : ℕ) → b < 32 → multiple j b ≡ 0 = one_bit_more j low_j 4 (omega arith) (omega arith) to_16 in
    let to_64 : (b : ℕ) → b < 64 → multiple j b ≡ 0 = one_bit_more j low_j 5 (omega arith) (omega arith) to_32 in
    let to_128 : (b : ℕ) → b < 128 → multiple j b ≡ 0 = one_bit_more j low_j 6 (omega arith) (omega arith) to_64 in
    one_bit_more j low_j 7 (omega arith) (omega arith) to_128

-- the remainder after a step of the division is a sum of two polynomials
zero_past : (xs : List ℕ) (k : ℕ) → get_or (xs ++ 0 ∷ []) k 0 ≡ get_or xs k 0
zero_past [] zero = refl
zero_past [] (suc k) = refl
zero_past (x ∷ xs) zero = refl
zero_past (x ∷ xs) (suc k) = zero_past xs k

zero_low : (xs : List ℕ) → Bytes xs → Bytes (xs ++ 0 ∷ [])
zero_low [] low = (omega arith, tt)
zero_low (x ∷ xs) low = (low.0, zero_low xs low.1)

same_length : (r : ℕ) (rs : List ℕ) (by : ℕ) → length (r ∷ rs) ≡ 20 → length (rs ++ 0 ∷ []) ≡ length (map (times by) GENERATOR)
same_length r rs by long =
    let one_less : length rs + 1 ≡ 20 = omega arith in length_push rs 0 ∙ one_less ∙ sym (length-map GENERATOR (times by))

divided_added : (r : ℕ) (rs : List ℕ) (c : ℕ) → length (r ∷ rs) ≡ 20
    → added (rs ++ 0 ∷ []) (map (times (bit_xor r c)) GENERATOR) ≡ divided (r ∷ rs) c
unfolding divided
divided_added r rs c long = fill_by_all (coefficient (r ∷ rs) (bit_xor r c)) (added (rs ++ 0 ∷ []) (map (times (bit_xor r c)) GENERATOR)) 20 0 len each
  where
    len : length (added (rs ++ 0 ∷ []) (map (times (bit_xor r c)) GENERATOR)) ≡ 20
    len =
        let one_less : length rs + 1 ≡ 20 = omega arith in
        length-added (rs ++ 0 ∷ []) (map (times (bit_xor r c)) GENERATOR) (same_length r rs (bit_xor r c) long) ∙ length_push rs 0 ∙ one_less

    each : (k : ℕ) → k < 20 → get_or (added (rs ++ 0 ∷ []) (map (times (bit_xor r c)) GENERATOR)) k 0 ≡ coefficient (r ∷ rs) (bit_xor r c) k
    each k low =
        rw (get_or-added (rs ++ 0 ∷ []) (map (times (bit_xor r c)) GENERATOR) k (same_length r rs (bit_xor r c) long), zero_past rs k, add-one k)
        (ap (bit_xor (get_or rs k 0)) (get_or-map (times (bit_xor r c)) GENERATOR k 0 0 low))

length-divided : (rest : List ℕ) (c : ℕ) → length (divided rest c) ≡ 20
unfolding divided
length-divided rest c = refl

divided_low : (r : ℕ) (rs : List ℕ) (c : ℕ) → length (r ∷ rs) ≡ 20 → Bytes (r ∷ rs) → c < 256 → Bytes (divided (r ∷ rs) c)
divided_low r rs c long low low_c =
    subst Bytes (divided_added r rs c long)
    (added_low (rs ++ 0 ∷ []) (map (times (bit_xor r c)) GENERATOR) (zero_low rs low.1)
    (products_low (bit_xor r c) GENERATOR (xor_of_8 r c low.0 low_c)))

next_zero : (j : ℕ) → next j 0 0 ≡ 0
next_zero j = ap (λ (x : ℕ). bit_xor x 0) (power_zero j)

-- a root of the polynomial divided so far is a root after one more step
step_zero : (j v r : ℕ) (rs : List ℕ) (c : ℕ) → j < 20 → v < 256 → Bytes (r ∷ rs) → length (r ∷ rs) ≡ 20 → c < 256
    → fold (next j) v (r ∷ rs) ≡ 0 → fold (next j) (next j v c) (divided (r ∷ rs) c) ≡ 0
unfolding multiple
step_zero j v r rs c low_j low_v low long low_c none =
    let by : ℕ = bit_xor r c in
    let low_by : by < 256 = xor_of_8 r c low.0 low_c in
    let turned : bit_xor (next j v r) (bit_xor r c) ≡ next j v c = rw (xor_assoc (times_power j v) r (bit_xor r c), ← xor_assoc r r c, xor_self r, xor_zero_l c) refl in
    let first : fold (next j) (next j v r) (rs ++ 0 ∷ []) ≡ 0 =
    fold_push (next j) (next j v r) rs 0 ∙ ap (λ (x : ℕ). next j x 0) none ∙ next_zero j in
    let second : fold (next j) by (map (times by) GENERATOR) ≡ 0 = multiple_zero j low_j by low_by in
    rw (
      ← turned,
      ← divided_added r rs c long,
      value_sum j (next j v r) by (rs ++ 0 ∷ []) (map (times by) GENERATOR) (next_low j v r low_v low.0) low_by (zero_low rs low.1)
          (products_low by GENERATOR low_by) (same_length r rs by long),
      first,
      xor_zero_l,
    ) second

folded_zero : (j v : ℕ) (rest cs : List ℕ) → j < 20 → v < 256 → Bytes rest → length rest ≡ 20 → All (λ c. c < 256) cs
    → fold (next j) v rest ≡ 0 → fold (next j) (fold (next j) v cs) (fold divided rest cs) ≡ 0
folded_zero j v rest [] low_j low_v low long all none = none
folded_zero j v [] (c ∷ cs) low_j low_v low long all none = let wrong : ⊥ = omega arith in absurd wrong
folded_zero j v (r ∷ rs) (c ∷ cs) low_j low_v low long all none =
    let low_c : c < 256 = All-head (λ (c : ℕ). c < 256) c cs all in
    folded_zero j (next j v c) (divided (r ∷ rs) c) cs low_j (next_low j v c low_v low_c) (divided_low r rs c long low low_c)
    (length-divided (r ∷ rs) c) (All-tail (λ (c : ℕ). c < 256) c cs all) (step_zero j v r rs c low_j low_v low long low_c none)

zeros_low : (n : ℕ) → Bytes (replicate n 0)
zeros_low zero = tt
zeros_low (suc n) = (omega arith, zeros_low n)

zeros_zero : (j n : ℕ) → fold (next j) 0 (replicate n 0) ≡ 0
zeros_zero j zero = refl
zeros_zero j (suc n) = ap (λ (x : ℕ). fold (next j) x (replicate n 0)) (next_zero j) ∙ zeros_zero j n

pub make_roots : (cs : List ℕ) → All (λ c. c < 256) cs → HasRoots (cs ++ check_codewords cs)
make_roots cs all j low_j =
    fold-append (next j) 0 cs (check_codewords cs)
    ∙ folded_zero j 0 (replicate 20 0) cs low_j (omega arith) (zeros_low 20) refl all (zeros_zero j 20)
