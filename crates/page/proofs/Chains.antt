-- Texts written one after another, of which the last may fail.
use Rattle.std.proofs.Common.{◌≡◌, List, ℕ, ◌++◌}
use Rattle.std.specs.Prelude.{Result, Ok, Err, OnOk, String, if◌then◌else◌, is_ok, string_bytes}
use Rattle.std.specs.declared.alloc.Global.{Global}
use Rattle.page.proofs.Growing.{grows_both}

pub puts_last : {T E : Type 0} (r : Result T E) (p : String Global) (z ts : List ℕ) → z ≡ (if is_ok r then string_bytes p ++ ts else string_bytes p) →
    OnOk r (z ≡ string_bytes p ++ ts)
puts_last (Ok _) p z ts a = a
puts_last (Err _) p z ts a = tt

pub puts_two : {T E : Type 0} (r : Result T E) (o p : String Global) (z ts us : List ℕ) → string_bytes p ≡ string_bytes o ++ ts →
    OnOk r (z ≡ string_bytes p ++ us) → OnOk r (z ≡ string_bytes o ++ (ts ++ us))
puts_two (Ok _) o p z ts us a b = grows_both (string_bytes o) (string_bytes p) z ts us a b
puts_two (Err _) o p z ts us a b = tt

pub puts_three : {T E : Type 0} (r : Result T E) (o p q : String Global) (z ts us vs : List ℕ) → string_bytes p ≡ string_bytes o ++ ts →
    string_bytes q ≡ string_bytes p ++ us → OnOk r (z ≡ string_bytes q ++ vs) → OnOk r (z ≡ string_bytes o ++ ((ts ++ us) ++ vs))
puts_three r o p q z ts us vs a b = puts_two r o q z (ts ++ us) vs (grows_both (string_bytes o) (string_bytes p) (string_bytes q) ts us a b)

pub puts_four : {T E : Type 0} (r : Result T E) (o p q s : String Global) (z ts us vs ws : List ℕ) → string_bytes p ≡ string_bytes o ++ ts →
    string_bytes q ≡ string_bytes p ++ us → string_bytes s ≡ string_bytes q ++ vs → OnOk r (z ≡ string_bytes s ++ ws) →
    OnOk r (z ≡ string_bytes o ++ (((ts ++ us) ++ vs) ++ ws))
puts_four r o p q s z ts us vs ws a b = puts_three r o q s z (ts ++ us) vs ws (grows_both (string_bytes o) (string_bytes p) (string_bytes q) ts us a b)
