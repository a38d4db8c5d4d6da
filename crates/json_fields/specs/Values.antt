-- JSON values by their parts: an object is a list of fields, and an array is a list of values.
use Rattle.std.specs.Prelude.{◌≡◌, ℕ, zero, suc, ◌==◌, List, [], ◌∷◌, ◌++◌, Bool, true, if◌then◌else◌, Result, OnOk, decimal}
use Rattle.json.specs.Json.{Json, boolean, number, string, array, object, Items, no_items, item, Members, no_members, member}
use Rattle.json.specs.Token.{Token, key}
use Rattle.json.specs.Tree.{json_tokens}

abbrev pub Field : Type 0
Field = List ℕ × Json

abbrev pub items_of : List Json → Items
items_of [] = no_items
items_of (v ∷ vs) = item v (items_of vs)

abbrev pub members_of : List Field → Members
members_of [] = no_members
members_of (f ∷ fs) = member f.0 f.1 (members_of fs)

abbrev pub array_of : List Json → Json
array_of vs = array (items_of vs)

abbrev pub object_of : List Field → Json
object_of fs = object (members_of fs)

abbrev pub text_field : List ℕ → List ℕ → Field
text_field name text = (name, string text)

abbrev pub number_value : ℕ → Json
number_value n = number (decimal n)

abbrev pub number_field : List ℕ → ℕ → Field
number_field name n = (name, number_value n)

-- a number field, left out if the number is 0
abbrev pub count_field : List ℕ → ℕ → List Field
count_field name n = if n == 0 then [] else number_field name n ∷ []

-- a field that is true, left out if the flag is false
abbrev pub flag_if : Bool → List ℕ → List Field
flag_if holds name = if holds then (name, boolean true) ∷ [] else []

-- the values that f makes of 0, 1 and so on, below n
unfoldable pub up_to : {X : Type 0} → (ℕ → List X) → ℕ → List X
up_to f zero = []
up_to f (suc n) = up_to f n ++ f n

-- ---- for private functions: the tokens appended to those written before

unfoldable pub fields_tokens : List Field → List Token
fields_tokens [] = []
fields_tokens (f ∷ fs) = key f.0 ∷ (json_tokens f.1 ++ fields_tokens fs)

unfoldable pub values_tokens : List Json → List Token
values_tokens [] = []
values_tokens (v ∷ vs) = json_tokens v ++ values_tokens vs

abbrev pub PutsFields : {T E : Type 0} → Result T E → List Token → List Token → List Field → Type 0
PutsFields answer old new fs = OnOk answer (new ≡ old ++ fields_tokens fs)

abbrev pub PutsValues : {T E : Type 0} → Result T E → List Token → List Token → List Json → Type 0
PutsValues answer old new vs = OnOk answer (new ≡ old ++ values_tokens vs)
