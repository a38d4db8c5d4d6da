-- A text that grows part by part.
use Rattle.std.proofs.Common.{◌≡◌, ℕ, ◌+◌, ◌≤◌, List, ◌++◌, length, take, sym, ap, ◌∙◌, append-nil, append_assoc, Some}
use Rattle.std.specs.Prelude.{slice_get}
use Rattle.std.specs.List.{flat_map}
use Rattle.std.proofs.lemmas.List.{take_all, take_more}
use Rattle.std.proofs.lemmas.List.Concat.{flat_map-cons}
use Rattle.std.proofs.lemmas.Grind.{flat_map-append}
use Rattle.std.proofs.lemmas.Option.{get_or_from_slice_get, slice_get_within}
use Rattle.json_fields.specs.Values.{up_to}
use Rattle.json_fields.proofs.Putting.{up_to-more}
use Rattle.cards.proofs.Slots.{InRow}

abbrev pub Grows : List ℕ → List ℕ → List ℕ → Type 0
Grows old new text = new ≡ old ++ text

pub grows_both : (o p q ts us : List ℕ) → Grows o p ts → Grows p q us → Grows o q (ts ++ us)
grows_both o p q ts us a b = b ∙ (ap (λ u. u ++ us) a ∙ append_assoc o ts us)

pub growing : InRow Grows
growing = record { none = λ o. sym (append-nil o); both = grows_both }

-- a text of what f makes of each element of a list grows by one element
pub grows_each : {X : Type 0} (old mid new : List ℕ) (f : X → List ℕ) (xs : List X) (k : ℕ) (x : X) →
    mid ≡ old ++ flat_map f (take k xs) → slice_get xs k ≡ Some x → new ≡ mid ++ f x → new ≡ old ++ flat_map f (take (k + 1) xs)
grows_each old mid new f xs k x a here b =
    let one = take_more xs k x (slice_get_within xs k x here) in
    rw (one, get_or_from_slice_get xs k x x here) (simp (flat_map-append, flat_map-cons, append-nil) (grows_both old mid new _ _ a b))

pub grows_all : {X : Type 0} (old new : List ℕ) (f : X → List ℕ) (xs : List X) (k : ℕ) →
    new ≡ old ++ flat_map f (take k xs) → length xs ≤ k → new ≡ old ++ flat_map f xs
grows_all old new f xs k a all = rw (← take_all k xs all) a

-- a text of what f makes of each number below n grows by one number
pub grows_up_to : (mid new : List ℕ) (f : ℕ → List ℕ) (n : ℕ) → mid ≡ up_to f n → new ≡ mid ++ f n → new ≡ up_to f (n + 1)
grows_up_to mid new f n a b = b ∙ (ap (λ u. u ++ f n) a ∙ sym (up_to-more f n))
