-- The batters who are out, and how. s is the sheet, and side the side that bats.
use Rattle.std.specs.Prelude.{ℕ, ◌==◌, Bool, true, false, ◌||◌, if◌then◌else◌, List, [], ◌∷◌, ◌++◌, Option, Some, None, is_some, codes}
use Rattle.std.specs.List.{list_any, flat_map}
use Rattle.notation.specs.declared.entry.{Side.Side, Ball.Ball, How.How, Leave.Leave, Out.Out, Plain.Plain}
use Rattle.ball_laws.specs.declared.ends.Ends.{Ends}
use Rattle.ball_laws.specs.Ends.{batter_at}
use Rattle.match_laws.specs.History.{opponent}
use Rattle.cards.specs.Sheet.{Sheet, player_of}
use Rattle.cards.specs.Dismissals.{fielder_name}
use Rattle.json.specs.Json.{Json, null, string}
use Rattle.json_fields.specs.Values.{Field, array_of, object_of, text_field, flag_if}
use Rattle.archive_deliveries.specs.declared.notes.Noted.{Noted}

-- a catch by the bowler has words of its own
abbrev pub catch_words : Bool → List ℕ
catch_words own = if own then codes "caught and bowled" else codes "caught"

abbrev pub how_words : Bool → How → List ℕ
how_words own How.Bowled = codes "bowled"
how_words own How.Caught = catch_words own
how_words own How.Lbw = codes "lbw"
how_words own How.Stumped = codes "stumped"
how_words own How.HitWicket = codes "hit wicket"
how_words own How.HitTwice = codes "hit the ball twice"
how_words own How.Obstructing = codes "obstructing the field"
how_words own How.RunOut = codes "run out"

abbrev pub leave_words : Leave → List ℕ
leave_words Leave.TimedOut = codes "timed out"
leave_words Leave.RetiredOut = codes "retired out"
leave_words Leave.RetiredHurt = codes "retired hurt"
leave_words Leave.RunOut = codes "run out"

-- the name of the batter at an end, or null if nobody is there
abbrev pub batter_value : Sheet → Side → Option ℕ → Json
batter_value s side None = null
batter_value s side (Some p) = string (player_of s side p)

-- the number of a fielder who isn't one of the eleven
abbrev pub substitute : ℕ
substitute = 12

-- a fielder of the other side; a substitute is named `sub` and marked as a substitute
abbrev pub fielder_of : Sheet → Side → ℕ → Json
fielder_of s side f =
    object_of (text_field (codes "name") (fielder_name s (opponent side) f) ∷ []
    ++ flag_if (f == substitute) (codes "substitute"))

abbrev pub fielders_fields : Sheet → Side → ℕ → List Field
fielders_fields s side f = if f == 0 then [] else (codes "fielders", array_of (fielder_of s side f ∷ [])) ∷ []

-- a dismissal off a delivery
abbrev pub wicket_of : Sheet → Side → Ends → ℕ → Out → Json
wicket_of s side ends bowler out =
    object_of ((codes "player_out", batter_value s side (batter_at out.who ends)) ∷ []
    ++ text_field (codes "kind") (how_words (out.fielder == bowler) out.how) ∷ []
    ++ fielders_fields s side out.fielder)

abbrev pub own_wickets : Sheet → Side → Ends → ℕ → Option Out → List Json
own_wickets s side ends bowler None = []
own_wickets s side ends bowler (Some out) = wicket_of s side ends bowler out ∷ []

-- a batter who left between deliveries or retired hurt
abbrev pub departure_of : Sheet → Side → Leave → ℕ → Json
departure_of s side way p =
    object_of (text_field (codes "player_out") (player_of s side p) ∷ []
    ++ text_field (codes "kind") (leave_words way) ∷ [])

abbrev pub is_gone : Plain → Bool
is_gone (Plain.Gone way p) = true
is_gone _ = false

abbrev pub gone_of : Sheet → Side → Plain → List Json
gone_of s side (Plain.Gone way p) = departure_of s side way p ∷ []
gone_of s side _ = []

-- the batters who left in these items
abbrev pub departures : Sheet → Side → List Noted → List Json
departures s side xs = flat_map (λ x. gone_of s side x.item) xs

-- a batter left in one of these items
abbrev pub has_gone : List Noted → Bool
has_gone xs = list_any (λ x. is_gone x.item) xs

-- the wickets of a delivery: of batters who left before the first delivery, its own, and of batters who left after it
abbrev pub wickets_of : Sheet → Side → List Noted → Ends → Ball → List Noted → List Json
wickets_of s side early ends b late =
    (departures s side early ++ own_wickets s side ends b.bowler b.out) ++ departures s side late

abbrev pub has_wickets : List Noted → Ball → List Noted → Bool
has_wickets early b late = (has_gone early || is_some b.out) || has_gone late

abbrev pub wickets_field : Sheet → Side → List Noted → Ends → Ball → List Noted → Field
wickets_field s side early ends b late = (codes "wickets", array_of (wickets_of s side early ends b late))

abbrev pub wickets_fields : Sheet → Side → List Noted → Ends → Ball → List Noted → List Field
wickets_fields s side early ends b late =
    if has_wickets early b late then wickets_field s side early ends b late ∷ [] else []
