-- An innings over by over. s is the sheet, h the history, f which innings each side began first and last, i the innings, and
-- xs the items of all innings, each with where it stands.
use Rattle.std.specs.Prelude.{ℕ, ◌+◌, ◌-◌, ◌*◌, ◌==◌, nat_lt, Bool, false, true, not, ◌&&◌, if◌then◌else◌, List, [], ◌∷◌, ◌++◌, filter, map, Option, Some, None, codes, decimal}
use Rattle.std.specs.List.{list_any}
use Rattle.notation.specs.declared.entry.{Side.Side, Cause.Cause, Plain.Plain}
use Rattle.ball_laws.specs.History.{History}
use Rattle.match_laws.specs.History.{begun, side_of, opponent, is_at}
use Rattle.match_laws.specs.Figures.{total}
use Rattle.match_laws.specs.Result.{side_total}
use Rattle.cards.specs.Sheet.{Sheet, name_of}
use Rattle.limits.specs.declared.powerplay.Powerplay.{Powerplay}
use Rattle.limits.specs.Limits.{overs_for}
use Rattle.json.specs.Json.{Json, number}
use Rattle.json_fields.specs.Values.{Field, array_of, object_of, text_field, number_field, count_field, flag_if, up_to}
use Rattle.archive_deliveries.specs.declared.{begun.Begun.Begun, notes.Noted.Noted}
use Rattle.archive_deliveries.specs.Notes.{begun_of, items_in, is_ball, carried}
use Rattle.export.specs.Info.{overs_told}
use Rattle.archive_deliveries.specs.Miscounts.{miscounted_fields}
use Rattle.archive_deliveries.specs.Deliveries.{listed, penalties}

module _ (s : Sheet) (side : Side) (f : Begun) (i : ℕ) where
  -- the deliveries of over k, up to the first delivery of another over
  abbrev pub deliveries_from : ℕ → List Noted → List Noted → List Json
  deliveries_from k early [] = []
  deliveries_from k early (x ∷ xs) =
      if is_ball x.item
      then (if k == x.over then listed s side f i early x (carried xs) ++ deliveries_from k [] xs else [])
      else deliveries_from k early xs

  -- an over, numbered from 0
  abbrev pub over_of : ℕ → List Noted → List Noted → Json
  over_of k early xs =
      object_of (number_field (codes "over") k ∷ []
      ++ (codes "deliveries", array_of (deliveries_from k early xs)) ∷ [])

  -- an over begins at each delivery that isn't of the over before
  abbrev pub overs_from : Option ℕ → List Noted → List Noted → List Json
  overs_from before early [] = []
  overs_from before early (x ∷ xs) =
      if is_ball x.item && not (is_at before x.over)
      then over_of x.over early (x ∷ xs) ∷ overs_from (Some x.over) [] xs
      else overs_from before early xs

  -- the overs of an innings by its items: the first delivery carries the items before it
  abbrev pub overs_of : List Noted → List Json
  overs_of xs = overs_from None (carried xs) xs

abbrev pub is_declaration : Plain → Bool
is_declaration (Plain.End Cause.Declared) = true
is_declaration _ = false

abbrev pub is_forfeiture : Plain → Bool
is_forfeiture (Plain.End Cause.Forfeited) = true
is_forfeiture _ = false

-- the captain's declaration, or his forfeiture, is among the items
abbrev pub is_declared : List Noted → Bool
is_declared xs = list_any (λ x. is_declaration x.item) xs

abbrev pub is_forfeited : List Noted → Bool
is_forfeited xs = list_any (λ x. is_forfeiture x.item) xs

-- penalty runs that count in innings i and were awarded before its first delivery
abbrev pub runs_before : Begun → ℕ → List Noted → ℕ
runs_before f i xs =
    penalties f i (filter (λ x. nat_lt x.innings i) xs) + penalties f i (carried (items_in i xs))

-- penalty runs that count in innings i and were awarded after a later innings had begun
abbrev pub runs_after : Begun → ℕ → List Noted → ℕ
runs_after f i xs = penalties f i (filter (λ x. nat_lt i x.innings) xs)

-- the penalty runs that no delivery carries
abbrev pub penalty_field : ℕ → ℕ → Field
penalty_field before after =
    (codes "penalty_runs", object_of (count_field (codes "pre") before ++ count_field (codes "post") after))

-- the field of these penalty runs, where there are any
abbrev pub penalty_fields : ℕ → ℕ → List Field
penalty_fields before after = if before + after == 0 then [] else penalty_field before after ∷ []

-- the runs that the side batting in innings i needs there to win, by the totals of all other innings
abbrev pub needed_in : History → ℕ → ℕ
needed_in h i =
    let side = side_of h i in
    side_total h (opponent side) + 1 - (side_total h side - total h i)

-- a delivery's number: its over, a point, and its ball in the over
abbrev pub ball_number : ℕ → ℕ → Json
ball_number over ball = number (decimal over ++ codes "." ++ decimal ball)

-- a powerplay, from the first ball of its first over to the sixth ball of its last. Overs are numbered from 0
abbrev pub powerplay_value : Powerplay → Json
powerplay_value p =
    object_of ((codes "from", ball_number (p.first - 1) 1) ∷ []
    ++ (codes "to", ball_number (p.last - 1) 6) ∷ []
    ++ text_field (codes "type") (codes "mandatory") ∷ [])

abbrev pub powerplay_fields : List Powerplay → List Field
powerplay_fields [] = []
powerplay_fields (p ∷ ps) = (codes "powerplays", array_of (map powerplay_value (p ∷ ps))) ∷ []

-- the target: the runs needed, and in how many overs where they are limited
abbrev pub target_field : Sheet → History → ℕ → Field
target_field s h i =
    (codes "target", object_of (number_field (codes "runs") (needed_in h i) ∷ [] ++ overs_told (overs_for s.limits i)))

-- the target, where innings i is the last of the match
abbrev pub target_fields : Sheet → History → ℕ → List Field
target_fields s h i =
    if i + 1 == 2 * s.innings
    then target_field s h i ∷ []
    else []

abbrev pub overs_field : Sheet → History → List Noted → ℕ → Field
overs_field s h xs i = (codes "overs", array_of (overs_of s (side_of h i) (begun_of h) i (items_in i xs)))

-- what an innings has besides its overs: penalty runs, how it ended, target, powerplays and miscounted overs
abbrev pub rest_fields : Sheet → History → List Noted → ℕ → List Field
rest_fields s h xs i =
    penalty_fields (runs_before (begun_of h) i xs) (runs_after (begun_of h) i xs)
    ++ flag_if (is_declared (items_in i xs)) (codes "declared")
    ++ flag_if (is_forfeited (items_in i xs)) (codes "forfeited")
    ++ target_fields s h i
    ++ powerplay_fields s.limits.powerplays
    ++ miscounted_fields (items_in i xs)

abbrev pub innings_of : Sheet → History → List Noted → ℕ → Json
innings_of s h xs i =
    object_of (text_field (codes "team") (name_of s (side_of h i)) ∷ []
    ++ overs_field s h xs i ∷ []
    ++ rest_fields s h xs i)

-- each innings that has begun
abbrev pub all_innings : Sheet → History → List Noted → List Json
all_innings s h xs = up_to (λ i. innings_of s h xs i ∷ []) (begun h)

abbrev pub innings_field : Sheet → History → List Noted → Field
innings_field s h xs = (codes "innings", array_of (all_innings s h xs))
