-- The votes that a map keeps.
use Rattle.std.proofs.Common.{◌≡◌, ◌⊎◌, ◌<◌, ◌+◌, ℕ, suc, true, false, List, ◌∷◌, length, slice_index_or, Option, Result, OnOk, IfOk, Ordering, arith, inr}
use Rattle.std.specs.Prelude.{OnErr, if◌then◌else◌, is_ok, is_some}
use Rattle.std.specs.List.{IsAmong}
use Rattle.std.proofs.lemmas.List.{length-map}
use Rattle.std.specs.Ordering.{match_ordering}
use Rattle.std.specs.Map.{values_of}
use Rattle.std.specs.BTreeMap.{insert_entry}
use Rattle.links.specs.Windows.{AreOfOr, Has, HasMore}

by_order : {K X : Type 0} (k : K) (v : X) (e : K × X) (es rest : List (K × X)) (x : X)
    → (Has (values_of rest) x → Has (values_of es) x ⊎ (v ≡ x))
    → (o : Ordering) → Has (values_of (match_ordering o ((k, v) ∷ e ∷ es) ((e.0, v) ∷ es) (e ∷ rest))) x
    → Has (values_of (e ∷ es)) x ⊎ (v ≡ x)
by_order k v e es rest x ih o h = grind arith

inserted : {K X : Type 0} (cmp : K → K → Ordering) (k : K) (v : X) (es : List (K × X)) → AreOfOr v (values_of (insert_entry cmp es k v)) (values_of es)
inserted cmp k v (e ∷ es) x h = by_order k v e es (insert_entry cmp es k v) x (inserted cmp k v es x) (cmp k e.0) h
inserted cmp k v es x h = grind arith

pub keeps : {K X A E : Type 0} (cmp : K → K → Ordering) (k : K) (v : X) (old new : List (K × X)) (r : Result A E)
    → OnOk r (new ≡ insert_entry cmp old k v) → OnErr r (new ≡ old) → AreOfOr v (values_of new) (values_of old)
keeps cmp k v old new r o n = grind (arith, inserted)

-- an item at an index of a list is in the list
at_index : {X : Type 0} (xs : List X) (x : X) (i : ℕ) → i < length xs → x ≡ slice_index_or xs i x → Has xs x
at_index (y ∷ ys) x (suc i) lt e = inr (at_index ys x i (omega (arith, lt)) e)
at_index xs x i lt e = grind arith

pub is_one : {X : Type 0} (xs : List X) (x : X) → IsAmong xs x → Has xs x
is_one xs x among = at_index xs x among.0 among.1.0 among.1.1

-- a new key adds one entry
pub one_more : {K X Y : Type 0} (old new : List (K × X)) (r : Result (Option X) Y) (was : Option X) → IfOk r (λ o. o ≡ was)
    → IfOk r (λ o. length new ≡ length old + (if is_some o then 0 else 1)) → is_some was ≡ false → is_ok r ≡ true → HasMore (values_of old) (values_of new)
one_more old new r was same len none ok = grind (arith, length-map)
