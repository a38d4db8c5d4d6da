-- The clean list, each item with the state of the match before it.
use Rattle.std.specs.Prelude.{ℕ, ◌==◌, Bool, true, false, if◌then◌else◌, List, [], ◌∷◌, filter, Option, None}
use Rattle.notation.specs.declared.entry.{Side.Side, Plain.Plain}
use Rattle.notation.specs.declared.entry.Side.TheVariants.{Home, Away}
use Rattle.ball_laws.specs.History.{History}
use Rattle.ball_laws.specs.Laws.{state_after}
use Rattle.match_laws.specs.History.{begun, latest_of, first_of, or_else, is_at}
use Rattle.match_laws.specs.Figures.{balls, overs}
use Rattle.match_laws.specs.Result.{current}
use Rattle.corrections.specs.declared.placed.Placed.{Placed}
use Rattle.archive_deliveries.specs.declared.{begun.Begun.Begun, notes.Noted.Noted}

-- the number of overs called in the innings that began last
abbrev pub overs_called : History → ℕ
overs_called h = if begun h == 0 then 0 else overs h (current h)

-- the number of deliveries that count in the current over
abbrev pub balls_called : History → ℕ
balls_called h = if begun h == 0 then 0 else balls h (current h)

-- the innings that each side began first and last
abbrev pub begun_of : History → Begun
begun_of h = record {
  home_first = first_of h Home;
  home_latest = latest_of h Home;
  away_first = first_of h Away;
  away_latest = latest_of h Away;
}

abbrev pub first_in : Begun → Side → Option ℕ
first_in f Home = f.home_first
first_in f Away = f.away_first

abbrev pub latest_in : Begun → Side → Option ℕ
latest_in f Home = f.home_latest
latest_in f Away = f.away_latest

-- for an award of penalty runs: the innings that its side had begun last before it
abbrev pub earlier_of : History → Plain → Option ℕ
earlier_of h (Plain.Penalty to law part) = latest_of h to
earlier_of h _ = None

-- an item of the clean list, taken after history h
abbrev pub note : History → Placed → Noted
note h x = record {
  innings = current h;
  over = overs_called h;
  balls = balls_called h;
  ends = (state_after h).ends;
  earlier = earlier_of h x.item;
  place = x.place;
  item = x.item;
}

-- the items of a clean list, taken one after another from history h on
abbrev pub notes : History → List Placed → List Noted
notes h [] = []
notes h (x ∷ xs) = note h x ∷ notes (x.item ∷ h) xs

-- the items of innings i
abbrev pub items_in : ℕ → List Noted → List Noted
items_in i xs = filter (λ x. x.innings == i) xs

-- whether the item awards penalty runs that count in innings i (Law 41): the innings that its side began last before the award,
-- or else the side's first
abbrev pub awards_to : Begun → ℕ → Plain → Option ℕ → Bool
awards_to f i (Plain.Penalty to law part) earlier = is_at (or_else earlier (first_in f to)) i
awards_to f i _ earlier = false

abbrev pub is_awarded : Begun → ℕ → Noted → Bool
is_awarded f i x = awards_to f i x.item x.earlier

abbrev pub is_ball : Plain → Bool
is_ball (Plain.Ball b) = true
is_ball _ = false

-- the items that a delivery carries: those after it, up to the next delivery
abbrev pub carried : List Noted → List Noted
carried [] = []
carried (x ∷ xs) = if is_ball x.item then [] else x ∷ carried xs
