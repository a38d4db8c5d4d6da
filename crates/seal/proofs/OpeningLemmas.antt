-- What passes at a sealed link.
use Rattle.std.proofs.Common.{◌≡◌, ◌||◌, ◌&&◌, ◌⊎◌, inl, inr, ℕ, zero, suc, Some, List, [], ◌∷◌, ◌++◌, Bool, true, false, length, take, arith, refl, sym, ap, subst, ◌∙◌, append-nil}
use Rattle.std.specs.Prelude.{bytes_eq, slice_get, slice_index}
use Rattle.std.specs.List.{list_any}
use Rattle.std.proofs.lemmas.List.{get_or-take, length-take-le}
use Rattle.std.proofs.lemmas.List.Concat.{flat_map-append}
use Rattle.std.proofs.lemmas.Slice.Eq.{bytes_eq-Decides}
use Rattle.seal.specs.Sealed.{IsSealed, has_size, sealed, untagged}
use Rattle.seal.specs.Receipts.{kept_for, outgoing}
use Rattle.seal.specs.Rings.{IsForm, IsFormBy, seals_by, sender_in}
use Rattle.seal.specs.Tagged.{bytes_of}
use Rattle.seal.specs.declared.carrier.TaggedMessage.{TaggedMessage}
use Rattle.seal.specs.declared.receipts.Receipts.{Receipts}
use Rattle.seal.specs.declared.ring.Ring.{Ring}
use Rattle.seal.proofs.SealedForms.{front, front_outgoing, long, of_untagged, sized, whole}
use Rattle.seal.specs.Opening.{GivenWasBrought, WasBrought, came_open, opening, opening_of, opens}
use Rattle.links.specs.Passed.{Passed, Opened, Sent, Came}
use Rattle.links.specs.declared.link.Receivers.{Receivers}

-- one more item in the log
pub opening_more : (ring : Ring) (carried : List Passed) (p : Passed) → opening ring (carried ++ p ∷ []) ≡ opening ring carried ++ opening_of ring p
opening_more ring carried p = flat_map-append (opening_of ring) carried (p ∷ []) ∙ ap (λ (l : List Passed). opening ring carried ++ l) (append-nil (opening_of ring p))

-- one more message that was sent
pub sent_more : (to : Receivers) (ring : Ring) (receipts : Receipts) (old new : List Passed) (m : List ℕ) (sent : TaggedMessage)
    → length m ≡ 48 → sent ≡ outgoing ring receipts m
    → new ≡ old ++ Sent to (bytes_of sent) ∷ [] → opening ring new ≡ opening ring old ++ Sent to m ∷ []
sent_more to ring receipts old new m sent h e is =
    ap (opening ring) is ∙ opening_more ring old (Sent to (bytes_of sent))
    ∙ ap (λ (l : List ℕ). opening ring old ++ Sent to l ∷ []) (ap (λ (t : TaggedMessage). take 48 (bytes_of t)) e ∙ front_outgoing (kept_for receipts m) ring m h)

-- bytes open by a list of seals if the test by one of them says so
abbrev any_test : List ℕ → List ℕ → List (List ℕ) → Bool
any_test front bytes seals = list_any (λ seal. bytes_eq bytes (sealed seal front)) seals

abbrev IsOneOf : List (List ℕ) → List ℕ → List ℕ → Type 0
IsOneOf seals front bytes = (i : ℕ) × ((seal : List ℕ) × (slice_get seals i ≡ Some seal) × (bytes ≡ sealed seal front))

by_first : (s : List ℕ) (seals : List (List ℕ)) (m bytes : List ℕ) (b : Bool) → bytes_eq bytes (sealed s m) ≡ b
    → (b ≡ false → IsOneOf seals m bytes) → IsOneOf (s ∷ seals) m bytes
by_first s seals m bytes true t rest = (zero, (s, refl, (bytes_eq-Decides bytes (sealed s m)).0 t))
by_first s seals m bytes false t rest = let found = rest refl in (suc found.0, found.1)

some_opens : (seals : List (List ℕ)) (m bytes : List ℕ) → any_test m bytes seals ≡ true → IsOneOf seals m bytes
some_opens [] m bytes e = absurd (cc)
some_opens (s ∷ seals) m bytes e =
    by_first s seals m bytes (bytes_eq bytes (sealed s m)) refl (λ no. some_opens seals m bytes (rw no at e))

-- one more seal in the list
pub before_or_last : (seals : List (List ℕ)) (s m bytes : List ℕ) → IsFormBy (seals ++ s ∷ []) m bytes → IsFormBy seals m bytes ⊎ IsSealed s m bytes
before_or_last [] s m bytes (zero, is) = let one : is.0 ≡ s = cc in inr (subst (λ (l : List ℕ). IsSealed l m bytes) one is.2)
before_or_last [] s m bytes (suc i, is) = absurd (cc)
before_or_last (x ∷ seals) s m bytes (zero, is) = inl (zero, is)
before_or_last (x ∷ seals) s m bytes (suc i, is) = later_or_last (before_or_last seals s m bytes (i, is))
  where
    later_or_last : IsFormBy seals m bytes ⊎ IsSealed s m bytes → IsFormBy (x ∷ seals) m bytes ⊎ IsSealed s m bytes
    later_or_last (inl found) = inl (suc found.0, found.1)
    later_or_last (inr e) = inr e

any_true : (b : Bool) → (b || true) ≡ true
any_true true = refl
any_true false = refl

opens_some : (seals : List (List ℕ)) (m bytes : List ℕ) (i : ℕ) (seal : List ℕ) → slice_get seals i ≡ Some seal → bytes ≡ sealed seal m → any_test m bytes seals ≡ true
opens_some [] m bytes i seal there e = absurd (cc)
opens_some (s ∷ seals) m bytes zero seal there e =
    let one : s ≡ seal = cc in
    ap (λ (b : Bool). b || any_test m bytes seals) ((bytes_eq-Decides bytes (sealed s m)).1 (e ∙ ap (λ (l : List ℕ). sealed l m) (sym one)))
opens_some (s ∷ seals) m bytes (suc i) seal there e =
    ap (λ (b : Bool). bytes_eq bytes (sealed s m) || b) (opens_some seals m bytes i seal there e) ∙ any_true (bytes_eq bytes (sealed s m))

-- bytes that open begin with their message
pub front_of : (seals : List (List ℕ)) (m bytes : List ℕ) → length m ≡ 48 → IsFormBy seals m bytes → take 48 bytes ≡ m
front_of seals m bytes h is = front is.1.0 m bytes h is.1.2

-- the sender's number is at the same index in the bytes as in the message
pub sender_before : (seals : List (List ℕ)) (m bytes : List ℕ) → length m ≡ 48 → IsFormBy seals m bytes → slice_index bytes 12 ≡ sender_in m
sender_before seals m bytes h is = sym (get_or-take 48 bytes 12 0 (omega arith)) ∙ ap (λ (l : List ℕ). slice_index l 12) (front_of seals m bytes h is)

form_at : (ring : Ring) (m n bytes : List ℕ) → m ≡ n → IsForm ring m bytes → IsForm ring n bytes
form_at ring m n bytes e is = subst (λ (l : List ℕ). IsForm ring l bytes) e is

both : (a b : Bool) → a ≡ true → b ≡ true → (a && b) ≡ true
both a b h k = grind arith

each_of : (a b : Bool) → (a && b) ≡ true → (a ≡ true) × (b ≡ true)
each_of a b h = grind arith

is_open : (ring : Ring) (m bytes : List ℕ) → length m ≡ 48 → IsForm ring m bytes → opens ring bytes ≡ true
is_open ring m bytes h is =
    let same : take 48 bytes ≡ m = front_of (seals_by ring m) m bytes h is in
    let there = form_at ring m (take 48 bytes) bytes (sym same) is in
    both (has_size bytes) _ (sized is.1.0 m bytes h is.1.2)
    (opens_some (seals_by ring (take 48 bytes)) (untagged bytes) bytes there.0 there.1.0 there.1.1 (of_untagged there.1.0 (take 48 bytes) bytes there.1.2))

open_form : (ring : Ring) (bytes : List ℕ) → opens ring bytes ≡ true → IsForm ring (take 48 bytes) bytes
open_form ring bytes t =
    let fine = each_of (has_size bytes) _ t in
    let found = some_opens (seals_by ring (take 48 bytes)) (untagged bytes) bytes fine.1 in
    (found.0, (found.1.0, found.1.1, whole found.1.0 bytes fine.0 found.1.2))

-- bytes that open begin with a message
open_size : (ring : Ring) (bytes : List ℕ) → opens ring bytes ≡ true → length (take 48 bytes) ≡ 48
open_size ring bytes t =
    let fine = each_of (has_size bytes) _ t in
    let size = long bytes fine.0 in
    length-take-le 48 bytes (omega (arith, size))

-- the sealed form of a message opens as that message
pub opens_as : (ring : Ring) (m bytes : List ℕ) → length m ≡ 48 → IsForm ring m bytes → opening_of ring (Came bytes) ≡ Came m ∷ []
opens_as ring m bytes h is =
    ap (λ (b : Bool). came_open b bytes) (is_open ring m bytes h is) ∙ ap (λ (l : List ℕ). Came l ∷ []) (front_of (seals_by ring m) m bytes h is)

never : (b : Bool) → (b ≡ true → ⊥) → b ≡ false
never true n = absurd (n refl)
never false n = refl

-- a test that tells whether bytes are the sealed form of a message tells whether they open
pub tells_open : (b : Bool) (ring : Ring) (m bytes : List ℕ) → length m ≡ 48 → (b ≡ true → IsForm ring m bytes)
    → ((n : List ℕ) → length n ≡ 48 → IsForm ring n bytes → b ≡ true) → b ≡ opens ring bytes
tells_open true ring m bytes h only each = sym (is_open ring m bytes h (only refl))
tells_open false ring m bytes h only each = sym (never (opens ring bytes) (λ t.
    let is : false ≡ true = each (take 48 bytes) (open_size ring bytes t) (open_form ring bytes t) in absurd (cc)))

closed : (b : Bool) (bytes : List ℕ) → (b ≡ true → ⊥) → came_open b bytes ≡ []
closed b bytes n = grind arith

-- bytes that aren't the sealed form of any message open as nothing
pub opens_not : (ring : Ring) (bytes : List ℕ) → ((m : List ℕ) → length m ≡ 48 → IsForm ring m bytes → ⊥) → opening_of ring (Came bytes) ≡ []
opens_not ring bytes none = closed (opens ring bytes) bytes (λ t. none (take 48 bytes) (open_size ring bytes t) (open_form ring bytes t))

-- one more datagram that came and opens, or doesn't
pub came_more : (ring : Ring) (old new : List Passed) (m bytes : List ℕ) → length m ≡ 48 → IsForm ring m bytes → new ≡ old ++ Came bytes ∷ []
    → opening ring new ≡ opening ring old ++ Came m ∷ []
came_more ring old new m bytes h e is =
    ap (opening ring) is ∙ opening_more ring old (Came bytes) ∙ ap (λ (l : List Passed). opening ring old ++ l) (opens_as ring m bytes h e)

pub came_none : (ring : Ring) (old new : List Passed) (bytes : List ℕ) → ((m : List ℕ) → length m ≡ 48 → IsForm ring m bytes → ⊥)
    → new ≡ old ++ Came bytes ∷ [] → opening ring new ≡ opening ring old
came_none ring old new bytes none is =
    ap (opening ring) is ∙ opening_more ring old (Came bytes) ∙ ap (λ (l : List Passed). opening ring old ++ l) (opens_not ring bytes none) ∙ append-nil (opening ring old)

-- what was brought stays brought with one more item in the log
later : (ring : Ring) (p : Passed) (carried : List Passed) (m : List ℕ) → WasBrought ring carried m → WasBrought ring (p ∷ carried) m
later ring p carried m h = (h.0, h.1, h.2, (suc h.3.0, h.3.1))

-- the first bytes that came open, or they don't
came_first : (ring : Ring) (bytes : List ℕ) (carried : List Passed) (m : List ℕ) → ((i : ℕ) → slice_get (opening ring carried) i ≡ Some (Came m) → WasBrought ring carried m)
    → (b : Bool) → opens ring bytes ≡ b → (i : ℕ) → slice_get (came_open b bytes ++ opening ring carried) i ≡ Some (Came m) → WasBrought ring (Came bytes ∷ carried) m
came_first ring bytes carried m rest true t zero e =
    let form = open_form ring bytes t in
    let is : take 48 bytes ≡ m = cc in
    (bytes, ap length (sym is) ∙ open_size ring bytes t, form_at ring (take 48 bytes) m bytes is form, (zero, refl))
came_first ring bytes carried m rest true t (suc i) e = later ring (Came bytes) carried m (rest i e)
came_first ring bytes carried m rest false t i e = later ring (Came bytes) carried m (rest i e)

pub given_was_brought : GivenWasBrought
given_was_brought ring [] i m e = absurd (cc)
given_was_brought ring (Sent to bytes ∷ carried) zero m e = absurd (cc)
given_was_brought ring (Sent to bytes ∷ carried) (suc i) m e = later ring (Sent to bytes) carried m (given_was_brought ring carried i m e)
given_was_brought ring (Opened station seals is_of_pairs ∷ carried) i m e =
    later ring (Opened station seals is_of_pairs) carried m (given_was_brought ring carried i m e)
given_was_brought ring (Came bytes ∷ carried) i m e =
    came_first ring bytes carried m (λ k f. given_was_brought ring carried k m f) (opens ring bytes) refl i e
