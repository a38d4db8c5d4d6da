-- The values of an array that is filled from the front, put one by one.
use Rattle.std.proofs.Common.{◌≡◌, ℕ, ◌+◌, List, [], ◌∷◌, ◌++◌, refl, ap}
use Rattle.std.specs.Prelude.{map}
use Rattle.json.specs.Json.{Json}
use Rattle.json.specs.Token.{Token}
use Rattle.json_fields.specs.Values.{values_tokens}
use Rattle.json_fields.proofs.Putting.{adds_values, no_values}
use Rattle.cards.proofs.Slots.{InRow, parts_from}
use Rattle.scoreboard.specs.Innings.{values_from}

abbrev pub PutsValues : List Token → List Token → List Json → Type 0
PutsValues old new vs = new ≡ old ++ values_tokens vs

pub putting : InRow PutsValues
putting = record { none = no_values; both = adds_values }

pub parts_from-values : {X : Type 0} (value : ℕ → X → Json) (n : ℕ) (xs : List X) → parts_from (λ k x. value k x ∷ []) n xs ≡ values_from value n xs
parts_from-values value n [] = refl
parts_from-values value n (x ∷ xs) = ap (λ u. value n x ∷ u) (parts_from-values value (n + 1) xs)

pub parts_from-map : {X : Type 0} (value : X → Json) (n : ℕ) (xs : List X) → parts_from (λ k x. value x ∷ []) n xs ≡ map value xs
parts_from-map value n [] = refl
parts_from-map value n (x ∷ xs) = ap (λ u. value x ∷ u) (parts_from-map value (n + 1) xs)
