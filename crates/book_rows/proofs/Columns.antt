-- How many digits a place has.
use Rattle.std.proofs.Common.{◌≡◌, ℕ, ◌-◌, ◌<◌, ◌≤◌, ◌/◌, ◌^◌, length, decimal, arith, ap, inl, inr}
use Rattle.std.proofs.lemmas.Bool.{cases_lt}
use Rattle.cards.specs.Columns.{spaces}
use Rattle.cards.proofs.Digits.{short, longer}
use Rattle.book_rows.specs.inner.Items.{place_columns}

two : (n : ℕ) → 10 ≤ n → n < 100 → length (decimal n) ≡ 2
two n a b = omega (arith, longer n a (omega (arith, b)), short (n / 10) (omega (arith, b)))

three : (n : ℕ) → 100 ≤ n → n < 1000 → length (decimal n) ≡ 3
three n a b = omega (arith, longer n (omega (arith, a)) (omega (arith, b)), two (n / 10) (omega (arith, a)) (omega (arith, b)))

-- a number from 1000 on has four digits or more
some : (n : ℕ) → n < 2 ^ 32 → 1 ≤ length (decimal n)
some n b = elim (cases_lt n 10) [ inl a ↦ omega (arith, short n a) | inr a ↦ omega (arith, longer n a b) ]

two_or_more : (n : ℕ) → 10 ≤ n → n < 2 ^ 32 → 2 ≤ length (decimal n)
two_or_more n a b = omega (arith, longer n a b, some (n / 10) (omega (arith, b)))

three_or_more : (n : ℕ) → 100 ≤ n → n < 2 ^ 32 → 3 ≤ length (decimal n)
three_or_more n a b = omega (arith, longer n (omega (arith, a)) b, two_or_more (n / 10) (omega (arith, a)) (omega (arith, b)))

four_or_more : (n : ℕ) → 1000 ≤ n → n < 2 ^ 32 → 4 ≤ length (decimal n)
four_or_more n a b = omega (arith, longer n (omega (arith, a)) b, three_or_more (n / 10) (omega (arith, a)) (omega (arith, b)))

pub one_digit : (n : ℕ) → n < 10 → place_columns n ≡ spaces 3
one_digit n a = ap (λ k. spaces (4 - k)) (short n a)

pub two_digits : (n : ℕ) → 10 ≤ n → n < 100 → place_columns n ≡ spaces 2
two_digits n a b = ap (λ k. spaces (4 - k)) (two n a b)

pub three_digits : (n : ℕ) → 100 ≤ n → n < 1000 → place_columns n ≡ spaces 1
three_digits n a b = ap (λ k. spaces (4 - k)) (three n a b)

pub four_digits : (n : ℕ) → 1000 ≤ n → n < 2 ^ 32 → place_columns n ≡ spaces 0
four_digits n a b =
    let most = four_or_more n a b in
    let none : 4 - length (decimal n) ≡ 0 = omega (arith, most) in
    ap spaces none
