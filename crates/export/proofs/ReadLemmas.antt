-- What a reader looks up in the value of an export.
use Rattle.std.proofs.Common.{◌≡◌, ℕ, ◌+◌, true, List, [], ◌∷◌, ◌++◌, map, codes, refl, ap, ◌∙◌, append_assoc, arith, eq-eqb, if◌then◌else◌, Some, None}
use Rattle.std.specs.List.{flat_map}
use Rattle.std.proofs.lemmas.List.Concat.{flat_map-cons}
use Rattle.notation.specs.declared.entry.{Side.Side, Plain.Plain}
use Rattle.notation.specs.declared.entry.Plain.TheVariants.{Ball as Bowl}
use Rattle.ball_laws.specs.Runs.{all_runs, split_of_ball}
use Rattle.cards.specs.Sheet.{Sheet}
use Rattle.json.specs.Json.{Json}
use Rattle.json_fields.specs.Values.{items_of, number_value}
use Rattle.archive_deliveries.specs.declared.{begun.Begun.Begun, notes.Noted.Noted}
use Rattle.archive_deliveries.specs.Notes.{is_ball, carried}
use Rattle.archive_deliveries.specs.Deliveries.{listed, penalties}
use Rattle.export.specs.Innings.{deliveries_from, overs_from, over_of}
use Rattle.export.specs.Laws.{at, elements, values_of, total_in}

pub elements-of : (vs : List Json) → elements (items_of vs) ≡ vs
elements-of [] = refl
elements-of (v ∷ vs) = ap (λ ws. v ∷ ws) (elements-of vs)

-- ---- the deliveries of all overs, in a row

abbrev pub in_over : Json → List Json
in_over over = values_of (at (codes "deliveries") over)

-- ---- totals

module _ (f : Begun) (i : ℕ) where
  -- the totals of the deliveries among the items
  abbrev pub own_total : Plain → List Noted → List ℕ
  own_total (Bowl b) late = (all_runs (split_of_ball b) + penalties f i late) ∷ []
  own_total _ late = []

  abbrev pub totals_of : List Noted → List ℕ
  totals_of [] = []
  totals_of (x ∷ xs) = own_total x.item (carried xs) ++ totals_of xs

module _ (s : Sheet) (side : Side) (f : Begun) (i : ℕ) where
  -- the deliveries among the items, not grouped by over
  abbrev pub all_listed : List Noted → List Noted → List Json
  all_listed early [] = []
  all_listed early (x ∷ xs) =
      if is_ball x.item then listed s side f i early x (carried xs) ++ all_listed [] xs else all_listed early xs

  over_begins : (early : List Noted) (x : Noted) (xs : List Noted) → is_ball x.item ≡ true →
      in_over (over_of s side f i x.over early (x ∷ xs)) ≡ listed s side f i early x (carried xs) ++ deliveries_from s side f i x.over [] xs
  over_begins early x xs ball = elements-of (deliveries_from s side f i x.over early (x ∷ xs)) ∙ rw (ball, eq-eqb x.over x.over refl) refl

  overs_on : (k : ℕ) (xs : List Noted) → deliveries_from s side f i k [] xs ++ flat_map in_over (overs_from s side f i (Some k) [] xs) ≡ all_listed [] xs
  overs_on k [] = refl
  overs_on k (x ∷ xs) = grind (arith, append_assoc, flat_map-cons in_over, over_begins [] x xs, overs_on x.over xs, overs_on k xs)

  pub overs_all : (early xs : List Noted) → flat_map in_over (overs_from s side f i None early xs) ≡ all_listed early xs
  overs_all early [] = refl
  overs_all early (x ∷ xs) = grind (arith, append_assoc, flat_map-cons in_over, over_begins early x xs, overs_on x.over xs, overs_all early xs)

  pub totals_read : (early xs : List Noted) → map total_in (all_listed early xs) ≡ map number_value (totals_of f i xs)
  totals_read early [] = refl
  totals_read early (x ∷ xs) = grind (arith, totals_read [] xs, totals_read early xs)
