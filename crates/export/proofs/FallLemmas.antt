-- The falls of wickets, put in a row.
use Rattle.std.proofs.Common.{◌≡◌, ℕ, ◌+◌, List, [], ◌∷◌, ◌++◌, refl, ap}
use Rattle.match_laws.specs.declared.rows.Fall.{Fall}
use Rattle.cards.proofs.Slots.{InRow, parts_from}
use Rattle.json.specs.Json.{Json}
use Rattle.json.specs.Token.{Token}
use Rattle.json_fields.specs.Values.{values_tokens}
use Rattle.json_fields.proofs.Putting.{adds_values, no_values}
use Rattle.export.specs.Falls.{falls_from}

abbrev pub PutsValues : List Token → List Token → List Json → Type 0
PutsValues old new vs = new ≡ old ++ values_tokens vs

pub putting : InRow PutsValues
putting = record { none = no_values; both = adds_values }

pub parts_from-falls : (value : ℕ → Fall → Json) (k : ℕ) (fs : List Fall) → parts_from (λ j x. value j x ∷ []) k fs ≡ falls_from value k fs
parts_from-falls value k [] = refl
parts_from-falls value k (x ∷ fs) = ap (λ u. value k x ∷ u) (parts_from-falls value (k + 1) fs)
