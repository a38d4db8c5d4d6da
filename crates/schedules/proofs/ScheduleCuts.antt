-- The parts of a line before and after its first space.
use Rattle.std.proofs.Common.{◌≡◌, ◌≢◌, ℕ, suc, ◌<◌, ◌==◌, List, [], ◌∷◌, ◌++◌, length, get_or, Bool, true, false, cond, Option, Some, None, Bor, refl, arith, lit<, ne_eqb}
use Rattle.std.specs.Char.{is_ascii_digit}
use Rattle.std.specs.Option.{MatchOption}
use Rattle.std.specs.Str.{all_ascii_digits}
use Rattle.std.proofs.lemmas.Bool.{and_parts, eqb-true}
use Rattle.std.proofs.lemmas.Bool.Decides.{nat_tests}
use Rattle.std.proofs.lemmas.Str.Pattern.{IsSplitOnceResult, split_parts}
use Rattle.schedules.specs.inner.ScheduleReading.{cut, with_first}

-- a piece without a space is cut off at the first space
cut_at : (a rest : List ℕ) → ((i : ℕ) → i < length a → get_or a i 0 ≢ 32) → cut (a ++ (32 ∷ rest)) ≡ Some (a, rest)
unfolding cut
cut_at [] rest h = refl
cut_at (b ∷ bs) rest h = rw (ne_eqb b 32 (h 0 (omega arith)), cut_at bs rest (λ i lt. h (suc i) (omega arith))) refl

no_cut : (bs : List ℕ) → ((i : ℕ) → i < length bs → get_or bs i 0 ≢ 32) → cut bs ≡ None
unfolding cut
no_cut [] h = refl
no_cut (b ∷ bs) h = rw (ne_eqb b 32 (h 0 (omega arith)), no_cut bs (λ i lt. h (suc i) (omega arith))) refl

-- digits are cut off at the first space too
pub cut_digits : (ds rest : List ℕ) → all_ascii_digits ds ≡ true → cut (ds ++ (32 ∷ rest)) ≡ Some (ds, rest)
unfolding cut
cut_digits [] rest h = refl
cut_digits (d ∷ ds) rest h =
    let p = and_parts (is_ascii_digit d) (all_ascii_digits ds) h in
    let head : (d == 32) ≡ false = grind (arith, nat_tests, p.0) in
    rw (head, cut_digits ds rest p.1) refl

-- a split at the first space gives these two parts
pub cut_split : (bs : List ℕ) (r : Option (Bor (List ℕ) × Bor (List ℕ))) → IsSplitOnceResult 32 bs r
    → MatchOption r (cut bs ≡ None) (λ p. cut bs ≡ Some (p.0.now, p.1.now))
cut_split bs None h = no_cut bs (split_parts 32 bs None h (lit< tt))
cut_split bs (Some (x, y)) h = let p = split_parts 32 bs (Some (x, y)) h (lit< tt) in rw p.0 (cut_at x.now y.now p.1)

found_go : (b : ℕ) (bs : List ℕ) (t : Bool) (o : Option (List ℕ × List ℕ)) (p : List ℕ × List ℕ) → (b == 32) ≡ t
    → ((q : List ℕ × List ℕ) → o ≡ Some q → bs ≡ q.0 ++ (32 ∷ q.1)) → cond t (Some ([], bs)) (with_first b o) ≡ Some p
    → (b ∷ bs) ≡ p.0 ++ (32 ∷ p.1)
found_go b bs t o p e h k = grind (arith, eqb-true b 32)

-- the two parts make up the line, with a space between them
pub cut_found : (bs : List ℕ) (p : List ℕ × List ℕ) → cut bs ≡ Some p → bs ≡ p.0 ++ (32 ∷ p.1)
unfolding cut
cut_found [] p h = absurd (cc)
cut_found (b ∷ bs) p h = found_go b bs (b == 32) (cut bs) p refl (cut_found bs) h
