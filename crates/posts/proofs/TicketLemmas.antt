-- How a secret is encrypted and read, and who is handed it.
use Rattle.std.proofs.Common.{◌≡◌, ◌∙◌, ◌<◌, ◌≤◌, ◌-◌, ℕ, zero, suc, Bool, true, false, List, [], ◌∷◌, ◌++◌, Option, None, Some, length, get_or, if◌then◌else◌, nat_lt, bit_xor, arith, refl, sym, ap}
use Rattle.std.proofs.lemmas.Bool.Decides.{nat_tests}
use Rattle.std.proofs.lemmas.Nat.Bits.{bit_at-lt, bit_at_xor, same_from_bits}
use Rattle.std.proofs.lemmas.Slice.Eq.{bytes_eq-Decides}
use Rattle.sha2.proofs.Facts256.{length-sha256}
use Rattle.posts.specs.Tickets.{Asking, IsHanded, handed, handed_in, is_good_ticket, pad_of, ticket_tag, those_handed, xored}
use Rattle.posts.specs.declared.tickets.{Ticket.Ticket, TheConstants.GOOD_FOR}

-- ---- the encrypted secret

pub length-xored : (xs ys : List ℕ) → length xs ≤ length ys → length (xored xs ys) ≡ length xs
length-xored [] ys h = refl
length-xored (x ∷ xs) [] h = absurd (omega (arith, h))
length-xored (x ∷ xs) (y ∷ ys) h = let rest = length-xored xs ys (omega (arith, h)) in omega (arith, rest)

pub get_or-xored : (xs ys : List ℕ) (i : ℕ) → i < length xs → i < length ys
    → get_or (xored xs ys) i 0 ≡ bit_xor (get_or xs i 0) (get_or ys i 0)
get_or-xored [] ys i h k = absurd (omega (arith, h))
get_or-xored (x ∷ xs) [] i h k = absurd (omega (arith, k))
get_or-xored (x ∷ xs) (y ∷ ys) zero h k = refl
get_or-xored (x ∷ xs) (y ∷ ys) (suc i) h k = get_or-xored xs ys i (omega (arith, h)) (omega (arith, k))

pub xor_twice : (a b : ℕ) → bit_xor (bit_xor a b) b ≡ a
xor_twice a b = same_from_bits _ a (λ i.
    let once = bit_at_xor a b i in
    let twice = bit_at_xor (bit_xor a b) b i in
    let left = bit_at-lt a i in
    let right = bit_at-lt b i in
    omega (arith, once, twice, left, right))

xored-twice : (xs ys : List ℕ) → length xs ≤ length ys → xored (xored xs ys) ys ≡ xs
xored-twice [] ys h = refl
xored-twice (x ∷ xs) [] h = absurd (omega (arith, h))
xored-twice (x ∷ xs) (y ∷ ys) h =
    ap (λ b. b ∷ xored (xored xs ys) ys) (xor_twice x y) ∙ ap (λ l. x ∷ l) (xored-twice xs ys (omega (arith, h)))

-- ---- who is handed the secret

shown : (good : Bool) (o : Option (List ℕ)) (text : List ℕ) → ◌≡◌ {A = Option (List ℕ)} (if good then o else None) (Some text)
    → (good ≡ true) × (o ≡ Some text)
shown good o text h = (grind (arith, h), grind (arith, h))

both_true : (b c : Bool) → (if b then c else false) ≡ true → (b ≡ true) × (c ≡ true)
both_true b c h = (grind (arith, h), grind (arith, h))

same_text : (x y : List ℕ) → Some x ≡ Some y → x ≡ y
same_text x y h = cc h

less : (n m : ℕ) → nat_lt n m ≡ true → n < m
less n m h = grind (arith, nat_tests, h)

pub is_handed : (secret tag text : List ℕ) (ticket : Option Ticket) (now : ℕ)
    → handed secret ticket tag now ≡ Some text → IsHanded secret ticket tag now text
is_handed secret tag text None now h = absurd (cc h)
is_handed secret tag text (Some t) now h =
    let found = shown (is_good_ticket (Some t) tag now) (Some (xored secret (pad_of t.key))) text h in
    let good = both_true (nat_lt (now - t.since) GOOD_FOR) _ found.0 in
    let wide : length (pad_of t.key) ≡ 32 = length-sha256 _ in
    record {
      given = t;
      was_out = refl;
      in_time = less _ _ good.0;
      by_its_tag = (bytes_eq-Decides tag (ticket_tag t.key)).0 good.1;
      is_used = ap (λ (b : Bool). if b then None else Some t) found.0;
      opens = λ long.
          ap (λ l. xored l (pad_of t.key)) (sym (same_text _ _ found.1)) ∙ xored-twice secret (pad_of t.key) (omega (arith, long, wide));
    }

none_handed : (asking : List Asking) → handed_in None asking ≡ []
none_handed [] = refl
none_handed (one ∷ more) = none_handed more

pub once : (ticket : Option Ticket) (asking : List Asking) → length (handed_in ticket asking) ≤ 1
once ticket [] = omega arith
once ticket (one ∷ more) = by_test (is_good_ticket ticket one.tag one.now) (once ticket more)
  where
    by_test : (good : Bool) → length (handed_in ticket more) ≤ 1
        → length (those_handed good one ++ handed_in (if good then None else ticket) more) ≤ 1
    by_test true rest = let none : length (handed_in None more) ≡ 0 = ap length (none_handed more) in omega (arith, none)
    by_test false rest = rest
