-- How HTML reads texts, and lists of texts: names, numbers, and what stays in the place where it begins.
use Rattle.std.proofs.Common.{◌≡◌, ◌<◌, ◌≤◌, ◌+◌, ◌/◌, ◌%◌, ℕ, zero, suc, Bool, true, false, List, [], ◌∷◌, ◌++◌, length, get_or, refl, ap, ◌∙◌, arith, chars, flat_map, ne_eqb}
use Rattle.std.specs.Prelude.{◌==◌, if◌then◌else◌, codes, decimal}
use Rattle.std.specs.Fmt.{digit_glyph, digits, digits_onto}
use Rattle.std.proofs.lemmas.Bool.{lt-ltb}
use Rattle.std.proofs.lemmas.List.Sums.{fold-append}
use Rattle.cards.specs.Columns.{lines_for, lines_from}
use Rattle.json_fields.specs.Values.{up_to}
use Rattle.page.specs.Escapes.{escaped, escaped_char, name_html}
use Rattle.page.specs.Markup.{HasListedMarkup, Reading, read, step}
use Rattle.page.specs.Markup.Reading.{Text, Value}
use Rattle.page.proofs.Escaping.{each_char}

-- ---- one text after another

pub chain : (r s t : Reading) (a b : List ℕ) → read r a ≡ s → read s b ≡ t → read r (a ++ b) ≡ t
chain r s t a b left right = fold-append step r a b ∙ (ap (λ s. read s b) left ∙ right)

pub both : (a b : List ℕ) → HasListedMarkup a → HasListedMarkup b → HasListedMarkup (a ++ b)
both a b left right = chain Text Text Text a b left right

pub three : (a b c : List ℕ) → HasListedMarkup a → HasListedMarkup b → HasListedMarkup c → HasListedMarkup (a ++ b ++ c)
three a b c left middle right = both (a ++ b) c (both a b left middle) right

pub four : (a b c d : List ℕ) → HasListedMarkup a → HasListedMarkup b → HasListedMarkup c → HasListedMarkup d → HasListedMarkup (a ++ b ++ c ++ d)
four a b c d first second third fourth = both (a ++ b ++ c) d (three a b c first second third) fourth

-- in the quotes of an attribute it is a part of the value
abbrev pub IsValue : List ℕ → Type 0
IsValue text = (word : List ℕ) → read (Value 39 word) text ≡ Value 39 word

-- ---- what stays where it begins

pub one_of : (r : Reading) (c : Bool) (a b : List ℕ) → read r a ≡ r → read r b ≡ r → read r (if c then a else b) ≡ r
one_of r true a b left right = left
one_of r false a b left right = right

pub each_stays : {X : Type 0} (r : Reading) (f : X → List ℕ) → ((x : X) → read r (f x) ≡ r) → (xs : List X) → read r (flat_map f xs) ≡ r
each_stays r f each [] = refl
each_stays r f each (x ∷ xs) = chain r r r (f x) (flat_map f xs) (each x) (each_stays r f each xs)

pub lines_marked : {X : Type 0} (f : X → List ℕ) → ((x : X) → HasListedMarkup (f x)) → (xs : List X) → HasListedMarkup (lines_for f xs)
lines_marked f each [] = refl
lines_marked f each (x ∷ xs) = both (f x) (lines_for f xs) (each x) (lines_marked f each xs)

pub numbered_marked : {X : Type 0} (f : ℕ → X → List ℕ) → ((n : ℕ) (x : X) → HasListedMarkup (f n x)) → (n : ℕ) (xs : List X) →
    HasListedMarkup (lines_from f n xs)
numbered_marked f each n [] = refl
numbered_marked f each n (x ∷ xs) = both (f n x) (lines_from f (n + 1) xs) (each n x) (numbered_marked f each (n + 1) xs)

pub up_to_marked : (f : ℕ → List ℕ) → ((k : ℕ) → HasListedMarkup (f k)) → (n : ℕ) → HasListedMarkup (up_to f n)
unfolding up_to
up_to_marked f each zero = refl
up_to_marked f each (suc n) = both (up_to f n) (f n) (up_to_marked f each n) (each n)

-- ---- numbers

digits_stay : (r : Reading) → ((d : ℕ) → d < 10 → step r (48 + d) ≡ r) → (k n : ℕ) (after : List ℕ) → read r after ≡ r →
    read r (digits_onto k 10 false n after) ≡ r
digits_stay r each zero n after stays = stays
digits_stay r each (suc k) n after stays =
    let one : read r (digit_glyph false (n % 10) ∷ after) ≡ r = rw (lt-ltb (n % 10) 10 (omega arith)) (ap (λ s. read s after) (each (n % 10) (omega arith)) ∙ stays) in
    one_of r (n / 10 == 0) (digit_glyph false (n % 10) ∷ after) (digits_onto k 10 false (n / 10) (digit_glyph false (n % 10) ∷ after)) one
    (digits_stay r each k (n / 10) (digit_glyph false (n % 10) ∷ after) one)

number_stays : (r : Reading) → ((d : ℕ) → d < 10 → step r (48 + d) ≡ r) → (n : ℕ) → read r (decimal n) ≡ r
unfolding digits
number_stays r each n = digits_stay r each 64 n [] refl

pub decimal_marked : (n : ℕ) → HasListedMarkup (decimal n)
decimal_marked n = number_stays Text (λ d small. rw (ne_eqb (48 + d) 60 (λ e. omega arith), ne_eqb (48 + d) 38 (λ e. omega arith))) n

pub decimal_value : (word : List ℕ) (n : ℕ) → read (Value 39 word) (decimal n) ≡ Value 39 word
decimal_value word n =
    number_stays (Value 39 word) (λ d small. rw (ne_eqb (48 + d) 39 (λ e. omega arith), ne_eqb (48 + d) 38 (λ e. omega arith))) n

-- ---- escaped texts

-- bytes from 128 on are no markup
high : (xs : List ℕ) → ((k : ℕ) → k < length xs → 128 ≤ get_or xs k 0) → HasListedMarkup xs
high [] h = refl
high (x ∷ xs) h =
    let far : 128 ≤ x = h 0 (omega arith) in
    rw (ne_eqb x 60 (λ e. omega arith), ne_eqb x 38 (λ e. omega arith)) (high xs (λ k below. h (suc k) (omega arith)))

char_marked : (c : ℕ) → HasListedMarkup (escaped_char c)
char_marked =
    each_char HasListedMarkup refl refl refl refl refl (λ c n38 n60 n62 n34 n39. rw (ne_eqb c 60 n60, ne_eqb c 38 n38) refl) high

pub escaped_marked : (text : List ℕ) → HasListedMarkup (escaped text)
escaped_marked text = each_stays Text escaped_char char_marked (chars text)

pub name_marked : (name : List ℕ) → HasListedMarkup (name_html name)
name_marked name = both (escaped name) (codes "</span>") (escaped_marked name) refl

-- Reads a text of literals, names and numbers.
pub ruleset markup = (escaped_marked, name_marked, decimal_marked, decimal_value, fold-append)
