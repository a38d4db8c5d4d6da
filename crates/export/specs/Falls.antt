-- The falls of wickets of all innings, each as on the card, with its over and ball. s is the sheet, h the history, and i the
-- innings.
use Rattle.std.specs.Prelude.{ℕ, ◌+◌, List, [], ◌∷◌, ◌++◌, slice_get, Option, Some, None, codes}
use Rattle.notation.specs.declared.entry.Side.{Side}
use Rattle.ball_laws.specs.History.{History}
use Rattle.match_laws.specs.declared.rows.Fall.{Fall}
use Rattle.match_laws.specs.Figures.{falls}
use Rattle.match_laws.specs.History.{begun, side_of}
use Rattle.cards.specs.Sheet.{Sheet, player_of}
use Rattle.falls.specs.declared.fallen.FallAt.{FallAt}
use Rattle.falls.specs.Falls.{falls_at, falls_in, over_and_ball}
use Rattle.json.specs.Json.{Json}
use Rattle.json_fields.specs.Values.{Field, array_of, object_of, text_field, number_field, up_to}

-- the over and the ball of a fall, where they are known
abbrev pub overs_fields : Option FallAt → List Field
overs_fields None = []
overs_fields (Some at) = text_field (codes "overs") (over_and_ball at) ∷ []

-- the fall after k others in innings i, in which side bats; there is where the wickets of the innings fell
abbrev pub fall_value : Sheet → Side → ℕ → List FallAt → ℕ → Fall → Json
fall_value s side i there k fall =
    object_of (number_field (codes "innings") (i + 1) ∷ []
    ++ number_field (codes "wicket") (k + 1) ∷ []
    ++ number_field (codes "runs") fall.total ∷ []
    ++ overs_fields (slice_get there k)
    ++ number_field (codes "player") fall.player ∷ []
    ++ text_field (codes "player_out") (player_of s side fall.player) ∷ [])

-- the value of each fall, by its index, counted from k
abbrev pub falls_from : (ℕ → Fall → Json) → ℕ → List Fall → List Json
falls_from value k [] = []
falls_from value k (fall ∷ fs) = value k fall ∷ falls_from value (k + 1) fs

-- the falls of innings i
abbrev pub falls_of : Sheet → History → ℕ → List Json
falls_of s h i = falls_from (fall_value s (side_of h i) i (falls_in (i + 1) (falls_at h))) 0 (falls h i)

abbrev pub falls_field : Sheet → History → Field
falls_field s h = (codes "falls", array_of (up_to (falls_of s h) (begun h)))
