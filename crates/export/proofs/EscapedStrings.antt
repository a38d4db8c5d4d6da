-- Each string of an export is read as it was before the characters that a terminal obeys were escaped.
use Rattle.std.proofs.Common.{◌≡◌, ℕ, zero, suc, ◌<◌, ◌≤◌, Bool, true, false, nat_lt, List, [], ◌∷◌, ◌++◌, Some, IsUtf8, chars, flat_map, encode_utf8, encode_utf8_all, inl, inr, refl, sym, ap, ◌∙◌, arith, append_assoc, append-nil, length, get_or, le-ltb, ne_eqb, ltb-true}
use Rattle.std.proofs.lemmas.Bool.{and_parts, cases_lt, cases_eq}
use Rattle.std.proofs.lemmas.Bool.Decides.{nat_tests}
use Rattle.std.proofs.lemmas.Grind.{flat_map-append}
use Rattle.std.proofs.lemmas.Str.{IsUtf8-encode, chars-append, chars-nil, chars_past_char, encode_ascii, inside_one}
use Rattle.std.specs.Char.{IsScalar}
use lib.Utf8.{encode, scalars, low_scalar}
use Rattle.json.specs.Print.{escape, escape_byte}
use Rattle.json.specs.Text.{code_unit, content, plain, prepend, short_escape}
use Rattle.json.proofs.Printed.Strings.{escape_byte_plain}
use Rattle.std.specs.List.{list_all}
use Rattle.export.specs.Escapes.{IsReadBack, is_obeyed, shown, shown_char}
use Rattle.export.proofs.EscapeLemmas.{read_back}

-- ---- how a string is escaped

shown_past : (c : ℕ) (more : List ℕ) → IsScalar c → shown (encode_utf8 c ++ more) ≡ shown_char c ++ shown more
shown_past c more ok =
    let text = IsUtf8-encode c ok in
    let one = chars_past_char (encode_utf8 c) [] c text (sym (append-nil (encode_utf8 c))) in
    rw (chars-append (encode_utf8 c) more text, one, chars-nil) refl

-- each byte is below DEL: such bytes aren't escaped
abbrev are_below : List ℕ → Bool
are_below = list_all (λ x. nat_lt x 127)

shown_below : (xs more : List ℕ) → are_below xs ≡ true → shown (xs ++ more) ≡ xs ++ shown more
shown_below [] more h = refl
shown_below (x ∷ xs) more h =
    let p = and_parts _ _ h in
    let low : x < 127 = ltb-true _ _ p.0 in
    let one : encode_utf8 x ≡ x ∷ [] = encode_ascii x (omega arith) in
    let unseen : is_obeyed x ≡ false = grind (arith, nat_tests) in
    let past : shown (x ∷ (xs ++ more)) ≡ x ∷ shown (xs ++ more) = rw (one, unseen) at (shown_past x (xs ++ more) (low_scalar x (omega arith))) in
    rw (past, shown_below xs more p.1) refl

-- a text of bytes below DEL stays as it is
pub shown_whole : (xs : List ℕ) → are_below xs ≡ true → shown xs ≡ xs
shown_whole xs h =
    ap shown (sym (append-nil xs)) ∙ shown_below xs [] h ∙ ap (λ (l : List ℕ). xs ++ flat_map shown_char l) chars-nil ∙ append-nil xs

-- each byte is from DEL on, as those of a character from DEL on: JSON escapes none of these
abbrev AreHigh : List ℕ → Type 0
AreHigh xs = (k : ℕ) → k < length xs → 127 ≤ get_or xs k 0

escape_high : (xs : List ℕ) → AreHigh xs → escape xs ≡ xs
escape_high [] h = refl
escape_high (x ∷ xs) h =
    let high : 127 ≤ x = h 0 (omega arith) in
    rw (escape_byte_plain x (λ e. omega arith) (λ e. omega arith) (omega arith), escape_high xs (λ k below. h (suc k) (omega arith)))

-- ---- how a reader reads an escaped string

abbrev IsRead : List ℕ → List ℕ → Type 0
IsRead text chars = (more : List ℕ) → content plain (text ++ more) ≡ prepend chars (content plain more)

read_high : (xs : List ℕ) → AreHigh xs → IsRead xs xs
unfolding content
read_high [] h more = grind arith
read_high (x ∷ xs) h more =
    let high : 127 ≤ x = h 0 (omega arith) in
    let rest = read_high xs (λ k below. h (suc k) (omega arith)) more in
    rw (ne_eqb x 34 (λ e. omega arith), ne_eqb x 92 (λ e. omega arith), le-ltb x 32 (omega arith), rest) (grind arith)

shown_read : (b : Bool) (c : ℕ) (more : List ℕ) → is_obeyed c ≡ b → AreHigh (encode_utf8 c)
    → content plain (shown_char c ++ more) ≡ prepend (encode_utf8 c) (content plain more)
shown_read true c more is high = read_back c more is
shown_read false c more is high = rw is (read_high (encode_utf8 c) high more)

-- the escape of a byte below DEL has only bytes below DEL, and is read as that byte
abbrev IsLow : ℕ → Type 0
IsLow x = (are_below (escape_byte x) ≡ true) × IsRead (escape_byte x) (x ∷ [])

abbrev EachBelow : ℕ → Type 0
EachBelow zero = Unit {0}
EachBelow (suc n) = EachBelow n × IsLow n

each_low : EachBelow 127
unfolding escape_byte content code_unit short_escape encode
each_low = assumption

below : (n : ℕ) → EachBelow n → (x : ℕ) → x < n → IsLow x
below zero each x h = absurd (omega arith)
below (suc n) each x h = elim (cases_eq x n) [ inl same ↦ rw same each.1 | inr other ↦ below n each.0 x (omega arith) ]

char_read : (c : ℕ) (more : List ℕ) → IsScalar c →
    content plain (shown (escape (encode_utf8 c) ++ more)) ≡ prepend (encode_utf8 c) (content plain (shown more))
char_read c more ok = elim (cases_lt c 127) [
  | inl low ↦
      let (stays, is) = below 127 each_low c low in
      rw (encode_ascii c (omega arith), append-nil, shown_below (escape_byte c) more stays) (is (shown more))
  | inr high ↦
      let bytes : AreHigh (encode_utf8 c) = λ k below. grind (arith, inside_one c [] (encode_utf8 c) k (sym (append-nil _)) below) in
      rw (escape_high (encode_utf8 c) bytes, shown_past c more ok) (shown_read (is_obeyed c) c (shown more) refl bytes)
]

closed : (more : List ℕ) → content plain (shown (34 ∷ more)) ≡ Some []
unfolding content
closed more = rw (shown_below (34 ∷ []) more refl)

all_read : (cs more : List ℕ) → scalars cs ≡ true →
    content plain (shown (escape (encode_utf8_all cs) ++ 34 ∷ more)) ≡ Some (encode_utf8_all cs)
all_read [] more ok = closed more
all_read (c ∷ cs) more ok =
    let (one, others) = and_parts _ _ ok in
    rw (flat_map-append escape_byte (encode_utf8 c), append_assoc, char_read c _ one, all_read cs more others)

pub string_read : (s : List ℕ) → IsUtf8 s → IsReadBack s
string_read s u more = rw (← u.1.1) (all_read u.0 more u.1.0)
