-- Where a text occurs in another one for the last time.
use Rattle.std.proofs.Common.{[], IfOk, Result, Ok, Err, ◌≡◌, ◌∙◌, ℕ, ◌+◌, ◌-◌, ◌<◌, ◌≤◌, List, ◌++◌, length, take, drop, ap, arith, sym, refl}
use Rattle.std.proofs.lemmas.List.{drop-drop, drop_at, length-append, length-drop, take-append-drop}
use Rattle.std.specs.Str.Iter.{HasSubslice}
use Rattle.std.specs.Str.Pattern.{HasTextAt, LacksTextAt}

pub cut_at : (n s : List ℕ) (p j : ℕ) → ((i : ℕ) → p < i → i ≤ length s → LacksTextAt n s i) → HasTextAt n s p j → 0 < length n
    → (rest : List ℕ) × (s ≡ take p s ++ (n ++ rest)) × ¬ (HasSubslice rest n)
cut_at n s p j none at some = (
  drop j s,
  sym (take-append-drop p s) ∙ ap (λ l. take p s ++ l) at.split,
  λ h.
      let long : length (drop j s) ≡ length h.0 + length (n ++ h.1) = ap length h.2 ∙ length-append h.0 (n ++ h.1) in
      let more : length (n ++ h.1) ≡ length n + length h.1 = length-append n h.1 in
      let left : length (drop j s) ≡ length s - j = length-drop j s in
      none (j + length h.0) (omega (arith, at.ends, some)) (omega (arith, long, more, left, some)) h.1
      (sym (drop-drop (length h.0) j s) ∙ ap (drop (length h.0)) h.2 ∙ drop_at h.0 (n ++ h.1) (length h.0) refl),
)

-- what an answer implies
pub of_ok : {A E : Type 0} {P Q : A → Type 0} → ((a : A) → P a → Q a) → (r : Result A E) → IfOk r P → IfOk r Q
of_ok f (Ok a) p = f a p
of_ok f (Err e) p = tt

-- two parts, appended to an empty text
pub joined : {x y z before front end text : List ℕ} → x ≡ [] → y ≡ x ++ before → before ≡ front → z ≡ y ++ end → end ≡ text → z ≡ front ++ text
joined i j k l m = rw (l, m, j, i, k) refl
