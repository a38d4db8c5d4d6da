-- Lines that name what they tell of.
use Rattle.std.proofs.Common.{ℕ, List, ◌≡◌, ◌++◌, Option, Result, append_assoc}
use Rattle.std.specs.Prelude.{OnOk}
use Rattle.std.specs.Io.KnownBytes.{Appends}

module _ {T E : Type 0} (r : Result T E) (o p : Option (List ℕ)) (head path c w x end : List ℕ) where
  pub with_words : w ≡ x → OnOk r (Appends o p (head ++ (path ++ (c ++ (w ++ end))))) → OnOk r (Appends o p (head ++ path ++ c ++ x ++ end))
  with_words one k =
      rw (append_assoc (head ++ path ++ c) x end, append_assoc (head ++ path) c (x ++ end), append_assoc head path (c ++ (x ++ end)), ← one) k

  pub with_both : (v u : List ℕ) → v ≡ u → w ≡ x → OnOk r (Appends o p (head ++ (path ++ (v ++ (c ++ (w ++ end))))))
      → OnOk r (Appends o p (head ++ path ++ u ++ c ++ x ++ end))
  with_both v u one other k =
      rw (
        append_assoc (head ++ path ++ u ++ c) x end,
        append_assoc (head ++ path ++ u) c (x ++ end),
        append_assoc (head ++ path) u (c ++ (x ++ end)),
        append_assoc head path (u ++ (c ++ (x ++ end))),
        ← one,
        ← other,
      ) k
