-- The written form of a sheet determines its limits.
use Rattle.std.proofs.Common.{◌≡◌, ◌<◌, ◌+◌, ◌/◌, ◌%◌, ℕ, Bool, List, [], ◌∷◌, ◌++◌, Option, drop, get_or, arith, refl, sym, ap, subst}
use Rattle.std.specs.Prelude.{⊤}
use Rattle.limits.specs.declared.powerplay.Powerplay.{Powerplay}
use Rattle.limits.specs.Limits.{Limits}
use Rattle.cards.specs.Digest.{bowler_bytes, each_overs, each_powerplay, free_bytes, limits_text}

-- the bytes are empty, or begin with a byte above k
abbrev Above : ℕ → List ℕ → Type 0
Above k [] = ⊤
Above k (b ∷ bs) = k < b

above_less : (k : ℕ) (l : List ℕ) → Above (k + 1) l → Above k l
above_less k l h = grind arith

none_at : (k : ℕ) (l r : List ℕ) → Above k l → l ≡ k ∷ r → {A : Type 0} → A
none_at k l r h e = absurd (let less = subst (Above k) e h in omega (arith, less))

-- the two bytes of a number determine the number
same_overs : (m n : ℕ) → m / 256 ≡ n / 256 → m % 256 ≡ n % 256 → m ≡ n
same_overs m n a b = omega (arith, a, b)

-- ---- one part at a time

overs_once : (xs ys p q : List ℕ) → Above 1 p → Above 1 q → each_overs xs ++ p ≡ each_overs ys ++ q → (xs ≡ ys) × (p ≡ q)
unfolding each_overs
overs_once [] [] p q h k e = (refl, e)
overs_once [] (y ∷ ys) p q h k e = none_at 1 p _ h e
overs_once (x ∷ xs) [] p q h k e = none_at 1 q _ k (sym e)
overs_once (x ∷ xs) (y ∷ ys) p q h k e = grind (arith, same_overs x y, overs_once xs ys p q h k)

bowler_once : (a b : Option ℕ) (p q : List ℕ) → Above 2 p → Above 2 q → bowler_bytes a ++ p ≡ bowler_bytes b ++ q → (a ≡ b) × (p ≡ q)
bowler_once a b p q h k e = grind arith

free_once : (a b : Bool) (p q : List ℕ) → Above 3 p → Above 3 q → free_bytes a ++ p ≡ free_bytes b ++ q → (a ≡ b) × (p ≡ q)
free_once a b p q h k e = grind arith

powerplays_once : (ps qs : List Powerplay) → each_powerplay ps ≡ each_powerplay qs → ps ≡ qs
unfolding each_powerplay
powerplays_once [] [] e = refl
powerplays_once [] (q ∷ qs) e = absurd (let h = ap (λ (l : List ℕ). get_or l 0 0) e in omega (arith, h))
powerplays_once (p ∷ ps) [] e = absurd (let h = ap (λ (l : List ℕ). get_or l 0 0) e in omega (arith, h))
powerplays_once (p ∷ ps) (q ∷ qs) e =
    let first = same_overs p.first q.first (ap (λ (l : List ℕ). get_or l 1 0) e) (ap (λ (l : List ℕ). get_or l 2 0) e) in
    let last = same_overs p.last q.last (ap (λ (l : List ℕ). get_or l 3 0) e) (ap (λ (l : List ℕ). get_or l 4 0) e) in
    let more = powerplays_once ps qs (ap (drop 5) e) in
    λ i. record { first = first i; last = last i } ∷ more i

-- ---- each part begins with a byte above those before it

powerplays_above : (ps : List Powerplay) → Above 3 (each_powerplay ps)
unfolding each_powerplay
powerplays_above [] = tt
powerplays_above (p ∷ ps) = omega arith

free_above : (b : Bool) (l : List ℕ) → Above 3 l → Above 2 (free_bytes b ++ l)
free_above b l h = grind arith

bowler_above : (a : Option ℕ) (l : List ℕ) → Above 2 l → Above 1 (bowler_bytes a ++ l)
bowler_above a l h = grind arith

pub same_limits : (l m : Limits) → limits_text l ≡ limits_text m → l ≡ m
same_limits l m e =
    let above = powerplays_above l.powerplays in
    let over = powerplays_above m.powerplays in
    let free = free_above l.free_hits _ above in
    let loose = free_above m.free_hits _ over in
    let overs = overs_once l.overs m.overs _ _ (bowler_above l.overs_a_bowler _ free) (bowler_above m.overs_a_bowler _ loose) e in
    let bowler = bowler_once l.overs_a_bowler m.overs_a_bowler _ _ free loose overs.1 in
    let hits = free_once l.free_hits m.free_hits _ _ above over bowler.1 in
    let powerplays = powerplays_once l.powerplays m.powerplays hits.1 in
    λ i. record { overs = overs.0 i; overs_a_bowler = bowler.0 i; free_hits = hits.0 i; powerplays = powerplays i }
