-- What happens at one station, step by step.
use Rattle.std.proofs.Common.{arith, ◌≡◌, Bool, true, List, [], ◌∷◌, ◌++◌, cond, refl, ap, ◌∙◌, subst, sym}

-- these, behind one more item if the test holds
abbrev pub with_one : {X : Type 0} → Bool → X → List X → List X
with_one test x xs = cond test (x ∷ xs) xs

module _ {State What : Type 0} (next : State → What → State) where
  abbrev pub nexts : State → List What → State
  nexts s [] = s
  nexts s (h ∷ hs) = next (nexts s hs) h

  -- a station's state is what the happenings there make of it
  pub nexts-one : (q : Bool) (s t u : State) (x : What) (xs : List What) → t ≡ nexts s xs → u ≡ cond q (next t x) t → u ≡ nexts s (with_one q x xs)
  nexts-one q s t u x xs e f = grind arith

module _ {State What : Type 0} (next : State → What → State) (May : State → What → Type 0) where
  abbrev pub Local : State → List What → Type 0
  Local s [] = Unit {0}
  Local s (h ∷ hs) = Local s hs × May (nexts next s hs) h

  pub local-one : (q : Bool) (s : State) (x : What) (xs : List What) → Local s (with_one q x xs) → Local s xs × (q ≡ true → May (nexts next s xs) x)
  local-one q s x xs h = grind arith

  -- the happenings lead from one state to another
  abbrev pub Goes : State → List What → State → Type 0
  Goes s hs t = Local s hs × (nexts next s hs ≡ t)

  pub goes-append : (s t u : State) (xs ys : List What) → Goes s ys t → Goes t xs u → Goes s (xs ++ ys) u
  goes-append s t u [] ys g h = (g.0, g.1 ∙ h.1)
  goes-append s t u (x ∷ xs) ys g h =
      let rest = goes-append s t (nexts next t xs) xs ys g (h.0.0, refl) in
      ((rest.0, subst (λ (z : State). May z x) (sym rest.1) h.0.1), ap (λ (z : State). next z x) rest.1 ∙ h.1)
