-- A sum by name over deliveries is the sum of the figures of the players of that name who batted or bowled.
use Rattle.std.proofs.Common.{◌≡◌, ℕ, ◌+◌, ◌==◌, ◌&&◌, ◌||◌, cond, if◌then◌else◌, Bool, true, false, List, [], ◌∷◌}
use Rattle.std.proofs.Common.{◌++◌, Option, Some, None, refl, sym, ◌∙◌, arith, eqb-true, eq-eqb}
use Rattle.std.specs.Cmp.{nat_eq_equiv}
use Rattle.std.proofs.lemmas.Bool.{or_left, or_right}
use Rattle.std.proofs.lemmas.List.Folds.{list_any-append}
use Rattle.std.specs.List.{cons_option, filter_map, list_any}
use Rattle.notation.specs.declared.entry.{Ball.Ball}
use Rattle.notation.specs.declared.entry.Plain.TheVariants.{Innings, Come, Ball as Bowl, End}
use Rattle.ball_laws.specs.declared.ends.Ends.{Ends}
use Rattle.ball_laws.specs.History.{History}
use Rattle.ball_laws.specs.Laws.{state_after}
use Rattle.ball_laws.specs.Sums.{tally}
use Rattle.match_laws.specs.History.{Delivery, annotated, begun, deliveries, is_at, is_of, note_of}
use Rattle.match_laws.specs.Figures.{bowler_in, comer, named_once}

-- ---- each name stands once

abbrev pub among : ℕ → List ℕ → Bool
among k ps = list_any (λ q. q == k) ps

among_once : (k : ℕ) (ps : List ℕ) → among k (named_once ps) ≡ among k ps
among_once k [] = refl
among_once k (p ∷ ps) = grind (arith, among_once k ps, list_any-append (λ q. q == k) (named_once ps) (p ∷ []), eqb-true p k)

-- two sums over the elements that pass a test add up to the sum of both numbers
pub sum_if : {X : Type 0} (test : X → Bool) (f g k : X → ℕ) → ((x : X) → f x + g x ≡ k x) → (xs : List X)
    → tally (λ x. if test x then f x else 0) xs + tally (λ x. if test x then g x else 0) xs ≡ tally (λ x. if test x then k x else 0) xs
sum_if test f g k e [] = refl
sum_if test f g k e (x ∷ xs) = grind (arith, sum_if test f g k e xs, e x)

-- ---- sums over players who pass a test

abbrev pub picked : (ℕ → Bool) → (ℕ → ℕ) → List ℕ → ℕ
picked test figure ps = tally (λ p. if test p then figure p else 0) ps

module _ (test : ℕ → Bool) where
  pub picked-none : (ps : List ℕ) → picked test (λ p. 0) ps ≡ 0
  picked-none [] = refl
  picked-none (p ∷ ps) = grind (arith, picked-none ps)

  -- a figure that is the same for each player
  pub picked-same : (f g : ℕ → ℕ) → ((p : ℕ) → f p ≡ g p) → (ps : List ℕ) → picked test f ps ≡ picked test g ps
  picked-same f g same [] = refl
  picked-same f g same (p ∷ ps) = grind (arith, picked-same f g same ps, same p)

  picked-push : (f : ℕ → ℕ) (ps : List ℕ) (p : ℕ) → picked test f (ps ++ p ∷ []) ≡ picked test f ps + cond (test p) (f p) 0
  picked-push f [] p = refl
  picked-push f (q ∷ ps) p = omega (arith, picked-push f ps p)

  -- the sum of a number that only player k has
  pub picked-one : (k n : ℕ) (ps : List ℕ) → picked test (λ p. if k == p then n else 0) (named_once ps) ≡ cond (among k ps) (cond (test k) n 0) 0
  picked-one k n [] = refl
  picked-one k n (p ∷ ps) =
      let more = picked-push (λ q. if k == q then n else 0) (named_once ps) p in
      grind (arith, picked-one k n ps, more, among_once k ps, nat_eq_equiv.symm p k, eqb-true k p)

-- a player whose name no other has
module _ (test : ℕ → Bool) (figure : ℕ → ℕ) (p : ℕ) where
  only : (ps : List ℕ) → ((q : ℕ) → among q ps ≡ true → test q ≡ (p == q)) →
      picked test figure ps ≡ picked (λ q. true) (λ q. if p == q then figure p else 0) ps
  only [] each = refl
  only (x ∷ ps) each =
      let rest = only ps (λ q there. each q (or_right (x == q) (among q ps) there)) in
      let same = each x (or_left (x == x) (among x ps) (eq-eqb x x refl)) in grind (arith, rest, same, eqb-true p x)

  pub picked-own : (ps : List ℕ) → among p (named_once ps) ≡ true → ((q : ℕ) → among q (named_once ps) ≡ true → test q ≡ (p == q)) →
      picked test figure (named_once ps) ≡ figure p
  picked-own ps there each =
      only (named_once ps) each ∙ (picked-one (λ q. true) p (figure p) ps ∙ rw (sym (among_once p ps) ∙ there) refl)

abbrev pub takes : (ℕ → Bool) → Option ℕ → Bool
takes test None = false
takes test (Some k) = test k

-- ---- a sum over deliveries is a sum over players, each of whom is among those named

module _ (i : ℕ) (key : Delivery → Option ℕ) where
  abbrev pub AreNamed : List ℕ → List Delivery → Type 0
  AreNamed ps [] = Unit {0}
  AreNamed ps (d ∷ ds) = AreNamed ps ds × ((k : ℕ) → is_of i d ≡ true → is_at (key d) k ≡ true → among k ps ≡ true)

  named_more : (o : Option ℕ) (ps : List ℕ) (ds : List Delivery) → AreNamed ps ds → AreNamed (cons_option o ps) ds
  named_more o ps [] named = tt
  named_more o ps (d ∷ ds) named = (named_more o ps ds named.0, λ k of at. grind (arith, named.1 k of at))

  module _ (test : ℕ → Bool) (f : Ball → ℕ) (ps : List ℕ) where
    one_delivery : (b : Bool) (o : Option ℕ) (n : ℕ) → ((k : ℕ) → b ≡ true → is_at o k ≡ true → among k ps ≡ true) →
        cond b (cond (takes test o) n 0) 0 ≡ picked test (λ p. if b && is_at o p then n else 0) (named_once ps)
    one_delivery true (Some k) n named = sym (picked-one test k n ps ∙ rw (named k refl (eq-eqb k k refl)) refl)
    one_delivery b o n named = sym (picked-none test (named_once ps))

    pub by_players : (ds : List Delivery) → AreNamed ps ds →
        tally (λ d. cond (is_of i d) (cond (takes test (key d)) (f d.ball) 0) 0) ds
        ≡ picked test (λ p. tally (λ d. if is_of i d && is_at (key d) p then f d.ball else 0) ds) (named_once ps)
    by_players [] named = sym (picked-none test (named_once ps))
    by_players (d ∷ ds) named =
        let of = λ (c : Delivery) (p : ℕ). if is_of i c && is_at (key c) p then f c.ball else 0 in
        let both = sum_if test (λ p. tally (λ c. of c p) ds) (of d) (λ p. tally (λ c. of c p) (d ∷ ds)) (λ p. refl) (named_once ps) in
        omega (arith, by_players ds named.0, one_delivery (is_of i d) (key d) (f d.ball) named.1, both)

-- ---- the bowler of a delivery

abbrev pub bowler_of : Delivery → Option ℕ
bowler_of d = Some (d.ball).bowler

pub bowlers_named : (i : ℕ) (ds : List Delivery) → AreNamed i bowler_of (filter_map (bowler_in i) ds) ds
bowlers_named i [] = tt
bowlers_named i (d ∷ ds) = (named_more i bowler_of (bowler_in i d) (filter_map (bowler_in i) ds) ds (bowlers_named i ds), λ k of at. grind arith)

-- ---- a batter at either end has come in

abbrev at_ends : ℕ → Ends → Bool
at_ends k e = is_at e.striker k || is_at e.other k

abbrev pub comers : History → ℕ → List ℕ
comers h i = filter_map (comer i) (annotated h)

has_come_in : (h : History) (i k : ℕ) → begun h ≡ i + 1 → at_ends k (state_after h).ends ≡ true → among k (comers h i) ≡ true
has_come_in [] i k e at = absurd cc
has_come_in (Innings s ∷ h) i k e at = absurd cc
has_come_in (End c ∷ h) i k e at = absurd cc
has_come_in (Come p ∷ h) i k e at = grind (arith, eq-eqb (begun h) (i + 1) e, has_come_in h i k e)
has_come_in (_ ∷ h) i k e at = grind (arith, has_come_in h i k e)

abbrev pub striker_of : Delivery → Option ℕ
striker_of d = d.striker

pub strikers_named : (h : History) (i : ℕ) → AreNamed i striker_of (comers h i) (deliveries h)
strikers_named [] i = tt
strikers_named (Bowl b ∷ h) i =
    let e = (state_after h).ends in
    (strikers_named h i, λ k of at. has_come_in h i k (eqb-true (begun h) (i + 1) of) (or_left (is_at e.striker k) (is_at e.other k) at))
strikers_named (x ∷ h) i = named_more i striker_of (comer i (note_of h x)) (comers h i) (deliveries h) (strikers_named h i)
