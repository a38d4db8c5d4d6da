-- The limits of a sheet, as in its table [limits]. The sheet's digest is of these and of the names.
use Rattle.std.specs.Prelude.{ℕ, Bool, true, false, not, ◌||◌, is_some, if◌then◌else◌, List, [], ◌∷◌, ◌++◌, map, Option, Some, None, codes}
use Rattle.limits.specs.declared.powerplay.Powerplay.{Powerplay}
use Rattle.limits.specs.Limits.{Limits}
use Rattle.json.specs.Json.{Json}
use Rattle.json_fields.specs.Values.{Field, array_of, object_of, number_field, number_value, flag_if}

-- a field of the values of a list, where it isn't empty
abbrev pub listed_fields : {X : Type 0} → List ℕ → (X → Json) → List X → List Field
listed_fields name value [] = []
listed_fields name value (x ∷ xs) = (name, array_of (map value (x ∷ xs))) ∷ []

-- how many overs a bowler may bowl, where they are limited
abbrev pub most_fields : Option ℕ → List Field
most_fields None = []
most_fields (Some n) = number_field (codes "overs_a_bowler") n ∷ []

-- the first and the last over of a powerplay
abbrev pub range_value : Powerplay → Json
range_value p = array_of (number_value p.first ∷ [] ++ number_value p.last ∷ [])

abbrev pub limits_fields : Limits → List Field
limits_fields l =
    listed_fields (codes "overs") number_value l.overs
    ++ most_fields l.overs_a_bowler
    ++ flag_if l.free_hits (codes "free_hits")
    ++ listed_fields (codes "powerplays") range_value l.powerplays

abbrev pub is_empty : {X : Type 0} → List X → Bool
is_empty [] = true
is_empty (x ∷ xs) = false

-- the sheet limits something
abbrev pub is_limited : Limits → Bool
is_limited l = ((not (is_empty l.overs) || is_some l.overs_a_bowler) || l.free_hits) || not (is_empty l.powerplays)

-- the field `limits`, where the sheet limits something
abbrev pub limits_field : Limits → List Field
limits_field l = if is_limited l then (codes "limits", object_of (limits_fields l)) ∷ [] else []
