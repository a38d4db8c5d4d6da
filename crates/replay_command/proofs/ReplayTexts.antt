-- Numbered texts with one more, and a last call that writes nothing.
use Rattle.std.proofs.Common.{◌≡◌, ℕ, zero, suc, ◌+◌, ◌<◌, List, [], ◌∷◌, ◌++◌, length, take, map, slice_index_or, Option, Result, refl, ap, arith}
use Rattle.std.proofs.Common.{append-nil, append_assoc, zero-add}
use Rattle.std.specs.Prelude.{OnOk}
use Rattle.std.specs.Io.KnownBytes.{Appends, Keeps}
use Rattle.streams.proofs.Appending.{appends_kept}
use Rattle.replay_command.specs.Replay.{numbered}

module _ {X : Type 0} (text : ℕ → X → List ℕ) where
  pub numbered_next : (n : ℕ) (xs : List X) (i : ℕ) (d x : X) → i < length xs → x ≡ slice_index_or xs i d →
      numbered text n (take (i + 1) xs) ≡ numbered text n (take i xs) ++ text (i + n) x
  numbered_next n [] i d x less e = absurd (omega arith)
  numbered_next n (y ∷ ys) zero d x less e = rw (append-nil (text n y), zero-add, e) refl
  numbered_next n (y ∷ ys) (suc i) d x less e =
      grind (arith, numbered_next (n + 1) ys i d x (omega arith) e, append_assoc (text n y) (numbered text (n + 1) (take i ys)) (text (i + (n + 1)) x))

  pub numbered_map : {Y : Type 0} (f : Y → X) (n : ℕ) (ys : List Y) → numbered text n (map f ys) ≡ numbered (λ m y. text m (f y)) n ys
  numbered_map f n [] = refl
  numbered_map f n (y ∷ ys) = ap (λ (u : List ℕ). text n (f y) ++ u) (numbered_map f (n + 1) ys)

pub kept_last : {T E : Type 0} (r : Result T E) (o p q : Option (List ℕ)) (ts : List ℕ) → Appends o p ts → Keeps p q → OnOk r (Appends o q ts)
kept_last r o p q ts a k = grind (arith, appends_kept o p q ts a k)
