-- The fate of a batter, in the words of the card, with each name in an element of its own. A bowler's own catch has one name.
use Rattle.std.specs.Prelude.{ℕ, ◌==◌, Bool, if◌then◌else◌, List, [], ◌++◌, Option, Some, None, codes}
use Rattle.notation.specs.declared.entry.{Side.Side, How.How}
use Rattle.match_laws.specs.declared.rows.Fate.{Fate}
use Rattle.cards.specs.Sheet.{Sheet, player_of}
use Rattle.cards.specs.Dismissals.{fielder_name, left_text}
use Rattle.page.specs.Escapes.{name_html}

-- out by this fielder, off this bowler
abbrev pub both_html : List ℕ → List ℕ → List ℕ → List ℕ
both_html how fielder bowler = (how ++ name_html fielder) ++ (codes " b " ++ name_html bowler)

-- a catch, which has one name if it is the bowler's own
abbrev pub caught_html : Bool → List ℕ → List ℕ → List ℕ
caught_html own fielder bowler = if own then codes "c &amp; b " ++ name_html bowler else both_html (codes "c ") fielder bowler

abbrev pub run_out_html : List ℕ → List ℕ
run_out_html fielder = (codes "run out (" ++ name_html fielder) ++ codes ")"

-- out off a delivery, by this fielder and off this bowler: own tells that they are one
abbrev pub out_html : How → Bool → List ℕ → List ℕ → List ℕ
out_html How.Bowled own fielder bowler = codes "b " ++ name_html bowler
out_html How.Caught own fielder bowler = caught_html own fielder bowler
out_html How.Lbw own fielder bowler = codes "lbw b " ++ name_html bowler
out_html How.Stumped own fielder bowler = both_html (codes "st ") fielder bowler
out_html How.HitWicket own fielder bowler = codes "hit wicket b " ++ name_html bowler
out_html How.HitTwice own fielder bowler = codes "hit the ball twice"
out_html How.Obstructing own fielder bowler = codes "obstructing the field"
out_html How.RunOut own fielder bowler = run_out_html fielder

-- the fate of a batter, where side is the fielding side
abbrev pub fate_html : Sheet → Side → Option Fate → List ℕ
fate_html s side None = []
fate_html s side (Some Fate.NotOut) = codes "not out"
fate_html s side (Some Fate.Hurt) = codes "retired not out"
fate_html s side (Some (Fate.Out out bowler)) =
    out_html out.how (out.fielder == bowler) (fielder_name s side out.fielder) (player_of s side bowler)
fate_html s side (Some (Fate.Left way)) = left_text way
