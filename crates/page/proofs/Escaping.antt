-- No byte of an escaped text is markup.
use Rattle.std.proofs.Common.{◌≡◌, ◌≢◌, ◌<◌, ◌≤◌, ℕ, suc, false, List, [], ◌∷◌, length, get_or, inl, inr, refl, sym, arith, append-nil, chars, flat_map, encode_utf8, ne_eqb}
use Rattle.std.specs.Prelude.{codes}
use Rattle.std.specs.List.{list_any}
use Rattle.std.proofs.lemmas.Bool.{cases_lt, cases_eq}
use Rattle.std.proofs.lemmas.List.Folds.{list_any-append}
use Rattle.std.proofs.lemmas.Str.{encode_ascii, inside_one}
use Rattle.page.specs.Escapes.{escaped, escaped_char, is_markup}

-- bytes from 128 on are not markup
high : (xs : List ℕ) → ((k : ℕ) → k < length xs → 128 ≤ get_or xs k 0) → list_any is_markup xs ≡ false
high [] h = refl
high (x ∷ xs) h =
    let far : 128 ≤ x = h 0 (omega arith) in
    rw (ne_eqb x 60 (λ e. omega arith), ne_eqb x 62 (λ e. omega arith), ne_eqb x 34 (λ e. omega arith), ne_eqb x 39 (λ e. omega arith))
    (high xs (λ k below. h (suc k) (omega arith)))

-- what holds of the five references, of every other ASCII character and of bytes from 128 on holds of an escaped character
pub each_char : (P : List ℕ → Type 0) → P (codes "&amp;") → P (codes "&lt;") → P (codes "&gt;") → P (codes "&quot;") → P (codes "&#39;") →
    ((c : ℕ) → c ≢ 38 → c ≢ 60 → c ≢ 62 → c ≢ 34 → c ≢ 39 → P (c ∷ [])) →
    ((xs : List ℕ) → ((k : ℕ) → k < length xs → 128 ≤ get_or xs k 0) → P xs) → (c : ℕ) → P (escaped_char c)
each_char P amp lt gt quot apos ascii far c = elim (cases_eq c 38) [
  | inl same ↦ rw same amp
  | inr n38 ↦ elim (cases_eq c 60) [
    | inl same ↦ rw same lt
    | inr n60 ↦
        elim (cases_eq c 62) [
          | inl same ↦ rw same gt
          | inr n62 ↦ elim (cases_eq c 34) [
            | inl same ↦ rw same quot
            | inr n34 ↦
                elim (cases_eq c 39) [
                  | inl same ↦ rw same apos
                  | inr n39 ↦
                      rw (ne_eqb c 38 n38, ne_eqb c 60 n60, ne_eqb c 62 n62, ne_eqb c 34 n34, ne_eqb c 39 n39) (elim (cases_lt c 128) [
                        | inl low ↦ rw (encode_ascii c low) (ascii c n38 n60 n62 n34 n39)
                        | inr above ↦ far (encode_utf8 c) (λ k below. grind (arith, inside_one c [] (encode_utf8 c) k (sym (append-nil _)) below))
                      ])
                ]
          ]
        ]
  ]
]

no_markup_char : (c : ℕ) → list_any is_markup (escaped_char c) ≡ false
no_markup_char =
    each_char (λ xs. list_any is_markup xs ≡ false) refl refl refl refl refl
    (λ c n38 n60 n62 n34 n39. rw (ne_eqb c 60 n60, ne_eqb c 62 n62, ne_eqb c 34 n34, ne_eqb c 39 n39) refl) high

all_chars : (cs : List ℕ) → list_any is_markup (flat_map escaped_char cs) ≡ false
all_chars [] = refl
all_chars (c ∷ cs) = rw (list_any-append is_markup (escaped_char c) (flat_map escaped_char cs), no_markup_char c, all_chars cs) refl

pub no_markup : (text : List ℕ) → list_any is_markup (escaped text) ≡ false
no_markup text = all_chars (chars text)
