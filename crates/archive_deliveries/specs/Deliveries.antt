-- Deliveries with the items that they carry. s is the sheet, side the side that bats in innings i, f the innings that each side
-- began, early the items before the first delivery of the innings, and late those up to the next delivery.
use Rattle.std.specs.Prelude.{ℕ, ◌+◌, ◌*◌, ◌==◌, Bool, not, ◌&&◌, ◌||◌, if◌then◌else◌, List, [], ◌∷◌, ◌++◌, length, filter, codes}
use Rattle.notation.specs.declared.entry.{Side.Side, Ball.Ball, Plain.Plain}
use Rattle.ball_laws.specs.declared.{ends.Ends.Ends, runs.Split.Split}
use Rattle.ball_laws.specs.Runs.{all_runs, split_of_ball, is_six}
use Rattle.match_laws.specs.History.{opponent}
use Rattle.match_laws.specs.Figures.{is_four}
use Rattle.cards.specs.Sheet.{Sheet, player_of}
use Rattle.json.specs.Json.{Json}
use Rattle.json_fields.specs.Values.{Field, object_of, text_field, number_field, count_field, flag_if}
use Rattle.archive_deliveries.specs.declared.{begun.Begun.Begun, notes.Noted.Noted}
use Rattle.archive_deliveries.specs.Notes.{is_awarded}
use Rattle.archive_deliveries.specs.Wickets.{batter_value, wickets_fields}

-- the penalty runs that these items award to innings i
abbrev pub penalties : Begun → ℕ → List Noted → ℕ
penalties f i xs = 5 * length (filter (is_awarded f i) xs)

abbrev pub extra_runs : Split → ℕ
extra_runs x = x.byes + x.legs + x.wides + x.noballs

-- four or six runs off the bat without a boundary
abbrev pub is_run : Ball → Bool
is_run b =
    let runs = (split_of_ball b).striker in
    ((runs == 4) && not (is_four b.bound)) || ((runs == 6) && not (is_six b.bound))

-- the runs of a delivery, with the penalty runs that it carries
abbrev pub runs_field : Split → Bool → ℕ → Field
runs_field x run penalty = (
  codes "runs",
  object_of (number_field (codes "batter") x.striker ∷ []
      ++ number_field (codes "extras") (extra_runs x + penalty) ∷ []
      ++ number_field (codes "total") (all_runs x + penalty) ∷ []
      ++ flag_if run (codes "non_boundary")),
)

abbrev pub extras_field : Split → ℕ → Field
extras_field x penalty = (
  codes "extras",
  object_of (count_field (codes "wides") x.wides
      ++ count_field (codes "noballs") x.noballs
      ++ count_field (codes "byes") x.byes
      ++ count_field (codes "legbyes") x.legs
      ++ count_field (codes "penalty") penalty),
)

-- the extras, or no field if there are none
abbrev pub extras_fields : Split → ℕ → List Field
extras_fields x penalty = if extra_runs x + penalty == 0 then [] else extras_field x penalty ∷ []

-- the striker, the bowler and the non-striker
abbrev pub players_fields : Sheet → Side → Ends → ℕ → List Field
players_fields s side ends bowler =
    (codes "batter", batter_value s side ends.striker) ∷ []
    ++ text_field (codes "bowler") (player_of s (opponent side) bowler) ∷ []
    ++ (codes "non_striker", batter_value s side ends.other) ∷ []

abbrev pub delivery_of : Sheet → Side → ℕ → List Noted → Ends → Ball → List Noted → Json
delivery_of s side penalty early ends b late =
    object_of (players_fields s side ends b.bowler
    ++ runs_field (split_of_ball b) (is_run b) penalty ∷ []
    ++ wickets_fields s side early ends b late
    ++ extras_fields (split_of_ball b) penalty)

-- the JSON value of an item if it is a delivery; none for any other item
abbrev pub listed_of : Sheet → Side → Begun → ℕ → List Noted → Plain → Ends → List Noted → List Json
listed_of s side f i early (Plain.Ball b) ends late = delivery_of s side (penalties f i late) early ends b late ∷ []
listed_of s side f i early _ ends late = []

abbrev pub listed : Sheet → Side → Begun → ℕ → List Noted → Noted → List Noted → List Json
listed s side f i early x late = listed_of s side f i early x.item x.ends late
