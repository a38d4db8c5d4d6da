-- The places of the data modules, and a module that is written.
use Rattle.std.proofs.Common.{◌≡◌, ◌≢◌, ◌+◌, ◌-◌, ◌*◌, ◌/◌, ◌%◌, ◌<◌, ◌≤◌, ℕ, zero, suc, Bool, true, false, cond, eqb, List, [], ◌∷◌}
use Rattle.std.proofs.Common.{◌++◌, map, set, length, get_or, refl, ap, sym, ◌∙◌, arith, add-one, append-nil, get_or-set_same}
use Rattle.std.proofs.Common.{get_or-set_other}
use Rattle.std.specs.Prelude.{◌==◌, nat_lt, if◌then◌else◌}
use Rattle.std.specs.List.{range_with_len}
use Rattle.std.proofs.lemmas.Bool.{eqb-true}
use Rattle.std.proofs.lemmas.List.{map-append, map_push}
use Rattle.std.proofs.lemmas.List.FromFn.{filter_of_map_range_with_len_more, map-range_with_len_more}
use Rattle.qr.proofs.RangeLemmas.{holds_at}
use Rattle.qr.specs.Modules.{IsPlaced, data_places, is_dark_in_all, is_data, is_set, masked, place, unmasked}

-- the step that leads to a place
abbrev pub step_of : ℕ → ℕ
step_of at =
    let column = at % 33 in
    let pair = if nat_lt 6 column then (32 - column) / 2 else 13 + (5 - column) / 2 in
    let right = if nat_lt pair 13 then 32 - 2 * pair else 31 - 2 * pair in
    let down = if pair % 2 == 0 then 32 - at / 33 else at / 33 in
    66 * pair + 2 * down + (right - column)

found : (n : ℕ) → n < 1056 → step_of (place n) ≡ n
found n h = eqb-true _ _ (holds_at (λ n. eqb (step_of (place n)) n) 1056 n h refl)

-- no two steps lead to the same place
pub places_differ : (n s : ℕ) → n < s → s < 1056 → place n ≢ place s
places_differ n s lt within e =
    let same : n ≡ s = sym (found n (omega arith)) ∙ ap step_of e ∙ found s within in omega arith

-- one more step
pub places_next : (n : ℕ) → data_places (n + 1) ≡ data_places n ++ cond (is_data (place n)) (place n ∷ []) []
places_next n = filter_of_map_range_with_len_more is_data place 0 n n (omega arith)

pub places_more : (n : ℕ) → is_data (place n) ≡ true → data_places (n + 1) ≡ data_places n ++ place n ∷ []
places_more n h = places_next n ∙ ap (λ (b : Bool). data_places n ++ cond b (place n ∷ []) []) h

pub places_same : (n : ℕ) → is_data (place n) ≡ false → data_places (n + 1) ≡ data_places n
places_same n h =
    places_next n ∙ ap (λ (b : Bool). data_places n ++ cond b (place n ∷ []) []) h ∙ append-nil (data_places n)

-- writing a module changes none at an earlier step
kept : (modules : List Bool) (b : Bool) (s n : ℕ) → s < 1056 → n ≤ s
    → map (unmasked (set modules (place s) b)) (data_places n) ≡ map (unmasked modules) (data_places n)
kept modules b s zero within h = refl
kept modules b s (suc n) within h =
    let new : ℕ → Bool = unmasked (set modules (place s) b) in
    let old : ℕ → Bool = unmasked modules in
    let here : new (place n) ≡ old (place n) =
    ap (masked (place n)) (get_or-set_other modules (place s) (place n) b false (places_differ n s (omega arith) within)) in
    let more = kept modules b s n within (omega arith) in
    let one = cond (is_data (place n)) (place n ∷ []) [] in
    let last : map new one ≡ map old one = grind (arith, here) in
    let parts = λ (f : ℕ → Bool). ap (map f) (ap data_places (sym (add-one n)) ∙ places_next n) ∙ map-append f (data_places n) one in
    parts new ∙ (λ i. more i ++ last i) ∙ sym (parts old)

pub masked_twice : (at : ℕ) (b : Bool) → masked at (masked at b) ≡ b
masked_twice at b = grind arith

-- one more bit is written
pub bit_more : (codewords : List ℕ) (modules : List Bool) (bit s : ℕ) → s < 1056 → place s < length modules → is_data (place s) ≡ true
    → map (unmasked modules) (data_places s) ≡ map (is_set codewords) (range_with_len 0 bit)
    → map (unmasked (set modules (place s) (masked (place s) (is_set codewords bit)))) (data_places (s + 1))
    ≡ map (is_set codewords) (range_with_len 0 (bit + 1))
bit_more codewords modules bit s within inside h so_far =
    let b : Bool = masked (place s) (is_set codewords bit) in
    let new : ℕ → Bool = unmasked (set modules (place s) b) in
    let here : new (place s) ≡ is_set codewords bit =
    ap (masked (place s)) (get_or-set_same modules (place s) b false inside) ∙ masked_twice (place s) (is_set codewords bit) in
    rw (places_more s h, map_push new, kept modules b s s within (omega arith), so_far, here)
    (sym (map-range_with_len_more (is_set codewords) 0 bit bit (omega arith)))

-- writing a data module changes no module that isn't data
pub others_kept : (modules : List Bool) (s at : ℕ) (b : Bool) → is_data (place s) ≡ true → is_data at ≡ false
    → get_or (set modules (place s) b) at false ≡ get_or modules at false
others_kept modules s at b one other =
    get_or-set_other modules (place s) at b false (λ (same : at ≡ place s). let bad : true ≡ false = sym one ∙ ap is_data (sym same) ∙ other in cc)

-- there are 807 data modules
all_places : length (data_places 1056) ≡ 807
all_places = refl

-- after all steps
pub placed_at_last : (codewords : List ℕ) (modules : List Bool) (bit s : ℕ) → length modules ≡ 1089 → s ≡ 1056 → length (data_places s) ≡ bit
    → map (unmasked modules) (data_places s) ≡ map (is_set codewords) (range_with_len 0 bit)
    → ((at : ℕ) → at < 1089 → is_data at ≡ false → get_or modules at false ≡ is_dark_in_all at) → IsPlaced codewords modules
placed_at_last codewords modules bit s whole done count bits pattern =
    let all : bit ≡ 807 = sym count ∙ ap (λ (n : ℕ). length (data_places n)) done ∙ all_places in record {
      whole = whole;
      bits =
          ap (λ (n : ℕ). map (unmasked modules) (data_places n)) (sym done) ∙ bits
          ∙ ap (λ (n : ℕ). map (is_set codewords) (range_with_len 0 n)) all;
      pattern = pattern;
    }
