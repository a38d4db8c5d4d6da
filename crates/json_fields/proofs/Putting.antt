-- How the tokens written for fields and values follow those written before them.
use Rattle.std.proofs.Common.{◌≡◌, ℕ, ◌+◌, ◌≤◌, List, [], ◌∷◌, ◌++◌, Result, refl, sym, ◌∙◌, arith, length, take, Some, add-one}
pub use Rattle.std.proofs.Common.{append-nil, append_assoc}
use Rattle.std.specs.Prelude.{OnOk, slice_get}
use Rattle.std.specs.List.{flat_map}
use Rattle.std.proofs.lemmas.List.{take_all, take_more}
use Rattle.std.proofs.lemmas.List.Concat.{flat_map-cons}
use Rattle.std.proofs.lemmas.Grind.{flat_map-append}
use Rattle.std.proofs.lemmas.Result.{on_ok_weaker}
use Rattle.std.proofs.lemmas.Option.{get_or_from_slice_get, slice_get_within}
use Rattle.json.specs.Json.{Json}
use Rattle.json.specs.Token.{Token, begin_object, end_object, begin_array, end_array, key}
use Rattle.json.specs.Tree.{json_tokens, items_tokens, members_tokens}
use Rattle.json_fields.specs.Values.{Field, items_of, members_of, array_of, object_of, fields_tokens, values_tokens, up_to}

pub fields_tokens-append : (fs gs : List Field) → fields_tokens (fs ++ gs) ≡ fields_tokens fs ++ fields_tokens gs
unfolding fields_tokens
fields_tokens-append [] gs = refl
fields_tokens-append (f ∷ fs) gs = simp (append_assoc, fields_tokens-append fs gs)

pub values_tokens-append : (vs ws : List Json) → values_tokens (vs ++ ws) ≡ values_tokens vs ++ values_tokens ws
unfolding values_tokens
values_tokens-append [] ws = refl
values_tokens-append (v ∷ vs) ws = simp (append_assoc, values_tokens-append vs ws)

pub members_tokens-of : (fs : List Field) → members_tokens (members_of fs) ≡ fields_tokens fs ++ end_object ∷ []
unfolding fields_tokens
members_tokens-of [] = refl
members_tokens-of (f ∷ fs) = simp (append_assoc, members_tokens-of fs)

pub items_tokens-of : (vs : List Json) → items_tokens (items_of vs) ≡ values_tokens vs ++ end_array ∷ []
unfolding values_tokens
items_tokens-of [] = refl
items_tokens-of (v ∷ vs) = simp (append_assoc, items_tokens-of vs)

pub up_to-none : {X : Type 0} (f : ℕ → List X) → up_to f 0 ≡ []
unfolding up_to
up_to-none f = refl

pub up_to-more : {X : Type 0} (f : ℕ → List X) (n : ℕ) → up_to f (n + 1) ≡ up_to f n ++ f n
unfolding up_to
up_to-more f n = rw add-one refl

-- Joins the tokens of fields and values into those of their object or array; calls that only write parts then need no answer.
pub ruleset json_parts =
    (append_assoc, append-nil, fields_tokens-append, values_tokens-append, members_tokens-of, items_tokens-of, up_to-none, up_to-more)

pub one_value : (v : Json) → values_tokens (v ∷ []) ≡ json_tokens v
unfolding values_tokens
one_value v = append-nil (json_tokens v)

pub one_field : (f : Field) → fields_tokens (f ∷ []) ≡ key f.0 ∷ json_tokens f.1
unfolding fields_tokens
one_field f = simp append-nil

-- the fields of all parts in order; the list of parts has the last part first
abbrev in_row : List (List Field) → List Field
in_row [] = []
in_row (fs ∷ parts) = in_row parts ++ fs

-- the new tokens are the old ones, then the head, then the fields of these parts
pub record Fields (old new head : List Token) (parts : List (List Field)) : Type 0 where
  pub are : new ≡ old ++ (head ++ fields_tokens (in_row parts))

pub begins : {old new head : List Token} → new ≡ old ++ head → Fields old new head []
unfolding fields_tokens
begins e = record { are = simp append-nil e }

pub starts : {old new : List Token} {fs : List Field} → new ≡ old ++ fields_tokens fs → Fields old new [] (fs ∷ [])
starts e = record { are = e }

-- tokens appended in two steps
pub joined : (old mid new ts us : List Token) → mid ≡ old ++ ts → new ≡ mid ++ us → new ≡ old ++ (ts ++ us)
joined old mid new ts us a b = grind (arith, append_assoc)

pub adds_fields : (old mid new : List Token) (fs gs : List Field) → mid ≡ old ++ fields_tokens fs → new ≡ mid ++ fields_tokens gs →
    new ≡ old ++ fields_tokens (fs ++ gs)
adds_fields old mid new fs gs a b = rw b (rw a (simp (append_assoc, fields_tokens-append)))

-- appends one more part
infixl 10 ◌▸◌
pub ◌▸◌ : {old mid new head : List Token} {parts : List (List Field)} {fs : List Field} →
    Fields old mid head parts → new ≡ mid ++ fields_tokens fs → Fields old new head (fs ∷ parts)
a ▸ b = record { are = b ∙ (rw a.are (simp (append_assoc, fields_tokens-append))) }

module _ {T E : Type 0} (r : Result T E) (new : List Token) where
  -- appends the last fields, which may fail
  pub ends : {old mid : List Token} {parts : List (List Field)} (fs : List Field) → Fields old mid [] parts →
      OnOk r (new ≡ mid ++ fields_tokens fs) → OnOk r (new ≡ old ++ fields_tokens (in_row parts ++ fs))
  ends fs a b = on_ok_weaker r (λ last. (a ▸ last).are) b

  -- closes an object or an array, which may fail
  pub is_object : {old mid : List Token} {parts : List (List Field)} → Fields old mid (begin_object ∷ []) parts →
      OnOk r (new ≡ mid ++ end_object ∷ []) → OnOk r (new ≡ old ++ values_tokens (object_of (in_row parts) ∷ []))
  is_object a b = on_ok_weaker r (λ last. rw last (rw a.are (simp (one_value, members_tokens-of, append_assoc)))) b

  pub is_object_field : {old mid : List Token} {name : List ℕ} {parts : List (List Field)} →
      Fields old mid (key name ∷ begin_object ∷ []) parts → OnOk r (new ≡ mid ++ end_object ∷ []) →
      OnOk r (new ≡ old ++ fields_tokens ((name, object_of (in_row parts)) ∷ []))
  is_object_field a b = on_ok_weaker r (λ last. rw last (rw a.are (simp (one_field, members_tokens-of, append_assoc)))) b

  pub is_array_field : {old first mid : List Token} {name : List ℕ} (vs : List Json) → Fields old first (key name ∷ begin_array ∷ []) [] →
      mid ≡ first ++ values_tokens vs → OnOk r (new ≡ mid ++ end_array ∷ []) → OnOk r (new ≡ old ++ fields_tokens ((name, array_of vs) ∷ []))
  unfolding fields_tokens
  is_array_field vs a b c = on_ok_weaker r (λ last. rw last (rw b (rw a.are (simp (items_tokens-of, append-nil, append_assoc))))) c

-- appends more values
pub adds_values : (old mid new : List Token) (vs ws : List Json) → mid ≡ old ++ values_tokens vs → new ≡ mid ++ values_tokens ws →
    new ≡ old ++ values_tokens (vs ++ ws)
adds_values old mid new vs ws a b = rw (b, a) (simp (append_assoc, values_tokens-append))

pub ends_values : {T E : Type 0} (r : Result T E) (old mid new : List Token) (vs ws : List Json) → mid ≡ old ++ values_tokens vs →
    OnOk r (new ≡ mid ++ values_tokens ws) → OnOk r (new ≡ old ++ values_tokens (vs ++ ws))
ends_values r old mid new vs ws a b = on_ok_weaker r (adds_values old mid new vs ws a) b

-- appending the first of the fields that are still due leaves the rest due
pub fields_due : (mid new all : List Token) (fs gs : List Field) → new ≡ mid ++ fields_tokens fs → mid ++ fields_tokens (fs ++ gs) ≡ all →
    new ++ fields_tokens gs ≡ all
fields_due mid new all fs gs put e = rw put (rw (append_assoc mid, ← fields_tokens-append) e)

pub values_due : (mid new all : List Token) (vs ws : List Json) → new ≡ mid ++ values_tokens vs → mid ++ values_tokens (vs ++ ws) ≡ all →
    new ++ values_tokens ws ≡ all
values_due mid new all vs ws put e = rw put (rw (append_assoc mid, ← values_tokens-append) e)

pub no_fields : (old : List Token) → old ≡ old ++ fields_tokens []
unfolding fields_tokens
no_fields old = sym (append-nil old)

pub no_values : (old : List Token) → old ≡ old ++ values_tokens []
unfolding values_tokens
no_values old = sym (append-nil old)

-- appends the values that f makes of the next element of a list
pub adds_each : {X : Type 0} (old mid new : List Token) (f : X → List Json) (xs : List X) (k : ℕ) (x : X) →
    mid ≡ old ++ values_tokens (flat_map f (take k xs)) → slice_get xs k ≡ Some x → new ≡ mid ++ values_tokens (f x) →
    new ≡ old ++ values_tokens (flat_map f (take (k + 1) xs))
adds_each old mid new f xs k x a here b =
    let one = take_more xs k x (slice_get_within xs k x here) in
    rw (one, get_or_from_slice_get xs k x x here) (simp (flat_map-append, flat_map-cons, append-nil) (adds_values old mid new _ _ a b))

pub ends_each : {X : Type 0} (old new : List Token) (f : X → List Json) (xs : List X) (k : ℕ) →
    new ≡ old ++ values_tokens (flat_map f (take k xs)) → length xs ≤ k → new ≡ old ++ values_tokens (flat_map f xs)
ends_each old new f xs k a all = rw (← take_all k xs all) a

pub begins_up_to : (old : List Token) (f : ℕ → List Json) → old ≡ old ++ values_tokens (up_to f 0)
unfolding up_to
begins_up_to old f = no_values old

-- appends the values that f makes of the next number
pub adds_up_to : (old mid new : List Token) (f : ℕ → List Json) (n : ℕ) → mid ≡ old ++ values_tokens (up_to f n) →
    new ≡ mid ++ values_tokens (f n) → new ≡ old ++ values_tokens (up_to f (n + 1))
unfolding up_to
adds_up_to old mid new f n a b = rw add-one (adds_values old mid new (up_to f n) (f n) a b)

pub ends_up_to : (old new : List Token) (f : ℕ → List Json) (k n : ℕ) → new ≡ old ++ values_tokens (up_to f k) → k ≡ n →
    new ≡ old ++ values_tokens (up_to f n)
ends_up_to old new f k n a all = rw (← all) a
