-- A position's text, cut at its point.
use Rattle.std.proofs.Common.{◌≡◌, ◌∙◌, ◌<◌, ◌+◌, ◌^◌, ℕ, zero, suc, false, List, [], ◌∷◌, ◌++◌, take, drop, length, length-append, decimal, arith, refl, sym, ap, subst, get_or}
use Rattle.std.specs.List.{after_first, before_first, position_or_len}
use Rattle.std.proofs.lemmas.List.{append_assoc, take_at, drop_at, drop-drop, get_or_append_left, get_or_at}
use Rattle.std.proofs.lemmas.List.Sums.{position_or_len_is, split_at_first, passes_at_first}
use Rattle.std.proofs.lemmas.Fmt.{decimal_is_IsNumeral}
use Rattle.std.proofs.lemmas.Bool.Decides.{nat_tests}
use Rattle.std.specs.Char.{digit_value}
use Rattle.std.specs.Str.Parse.{AllDigits}
use Rattle.agree_core.specs.declared.position.Position.{Position}
use Rattle.posts.specs.Texts.{is_point, place_text}

-- where the first point is, the text before it, and the text after it
pub record IsCutAt (text front back : List ℕ) : Type 0 where
  pub there : position_or_len is_point text < length text
  pub front_is : before_first is_point text ≡ front
  pub back_is : after_first is_point text ≡ back

digit_fails : (c : ℕ) → digit_value c < 10 → is_point c ≡ false
digit_fails c h = grind (arith, nat_tests, h)

digits_fail : (ds : List ℕ) (k : ℕ) → AllDigits 10 ds → k < length ds → is_point (get_or ds k 0) ≡ false
digits_fail [] k h within = absurd (omega (arith, within))
digits_fail (c ∷ cs) zero h within = digit_fails c h.0
digits_fail (c ∷ cs) (suc k) h within = digits_fail cs k h.1 (omega (arith, within))

no_point : (n k : ℕ) → n < 2 ^ 64 → k < length (decimal n) → is_point (get_or (decimal n) k 0) ≡ false
no_point n k small within = digits_fail (decimal n) k (decimal_is_IsNumeral n small).0.1 within

pub cut_place : (at : Position) (text : List ℕ) → at.place < 2 ^ 32 → text ≡ place_text at
    → IsCutAt text (decimal at.place) (decimal at.round)
cut_place at text small is =
    let front = decimal at.place in
    let back = decimal at.round in
    let all = front ++ 46 ∷ back in
    let point : position_or_len is_point all ≡ length front =
    position_or_len_is is_point all (length front) 0 (omega (arith, length-append front (46 ∷ back)))
    (λ k less. ap is_point (get_or_append_left front (46 ∷ back) 0 k less) ∙ no_point at.place k (omega arith) less)
    (λ _. ap is_point (get_or_at front 46 back 0 (length front) refl)) in
    let there : position_or_len is_point all < length all = omega (arith, point, length-append front (46 ∷ back)) in
    let before : before_first is_point all ≡ front = ap (λ n. take n all) point ∙ take_at front (46 ∷ back) (length front) refl in
    let rest : drop 1 (46 ∷ back) ≡ back = refl in
    let behind : after_first is_point all ≡ back =
    ap (λ n. drop (n + 1) all) point ∙ sym (drop-drop 1 (length front) all)
    ∙ ap (drop 1) (drop_at front (46 ∷ back) (length front) refl) ∙ rest in
    let whole : text ≡ all = is ∙ append_assoc front (46 ∷ []) back in
    subst (λ t. IsCutAt t front back) (sym whole) (record { there = there; front_is = before; back_is = behind })

pub joined : (text : List ℕ) → position_or_len is_point text < length text
    → text ≡ before_first is_point text ++ 46 ∷ after_first is_point text
joined text within =
    let whole = split_at_first is_point text 0 within in
    let passes = passes_at_first is_point text 0 within in
    let byte : get_or text (position_or_len is_point text) 0 ≡ 46 = grind (arith, passes) in
    whole ∙ ap (λ b. before_first is_point text ++ b ∷ after_first is_point text) byte
