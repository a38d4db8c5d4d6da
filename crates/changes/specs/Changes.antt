-- The differences between two stages of a match, the old one and the new one.
use Rattle.std.specs.Prelude.{ℕ, ◌==◌, ◌&&◌, not, Bool, true, false, Option, Some, None, List, [], ◌∷◌, ◌++◌, map, filter}
use Rattle.notation.specs.declared.entry.Side.{Side}
use Rattle.notation.specs.declared.entry.Side.TheVariants.{Home, Away}
use Rattle.notation.specs.Code.{how_code, leave_code}
use Rattle.ball_laws.specs.Over.{numbers}
use Rattle.match_laws.specs.declared.rows.{Fate.Fate, BattingRow.BattingRow, BowlingRow.BowlingRow}
use Rattle.match_laws.specs.declared.outcome.Outcome.{Outcome}
use Rattle.match_laws.specs.declared.outcome.Outcome.TheVariants.{Undecided, Draw, Tie, Runs, Wickets, InningsAnd, PenaltyRuns}
use Rattle.match_laws.specs.History.{side_eq}
use Rattle.match_laws.specs.Result.{outcome}
use Rattle.changes.specs.declared.stage.{Total.Total, Batter.Batter}
use Rattle.changes.specs.declared.change.{Part.Part, Change.Change}
use Rattle.changes.specs.Stage.{Stage, batting_in, bowling_in, total_in, striker}

-- ---- alike, as a card shows it

-- equal ways of being out, fielders and bowlers
abbrev pub is_same_fate : Fate → Fate → Bool
is_same_fate Fate.NotOut Fate.NotOut = true
is_same_fate Fate.Hurt Fate.Hurt = true
is_same_fate (Fate.Out o b) (Fate.Out p c) = (how_code o.how == how_code p.how) && ((o.fielder == p.fielder) && (b == c))
is_same_fate (Fate.Left way) (Fate.Left other) = leave_code way == leave_code other
is_same_fate a b = false

abbrev pub are_same_fates : Option Fate → Option Fate → Bool
are_same_fates None None = true
are_same_fates (Some a) (Some b) = is_same_fate a b
are_same_fates a b = false

-- equal runs and balls faced
abbrev pub is_same_batting : BattingRow → BattingRow → Bool
is_same_batting a b = (a.runs == b.runs) && (a.faced == b.faced)

-- equal wide runs and no balls
abbrev pub is_same_wides : BowlingRow → BowlingRow → Bool
is_same_wides a b = (a.wides == b.wides) && (a.noballs == b.noballs)

abbrev pub is_same_bowling : BowlingRow → BowlingRow → Bool
is_same_bowling a b =
    (a.overs == b.overs) && ((a.balls == b.balls) && ((a.maidens == b.maidens) && ((a.runs == b.runs) && ((a.wickets == b.wickets)
    && is_same_wides a b))))

abbrev pub is_same_total : Total → Total → Bool
is_same_total a b =
    (a.total == b.total) && ((a.wickets == b.wickets) && ((a.overs == b.overs) && (a.balls == b.balls)))

abbrev pub are_same_totals : Option Total → Option Total → Bool
are_same_totals None None = true
are_same_totals (Some a) (Some b) = is_same_total a b
are_same_totals a b = false

abbrev pub are_same_batters : Option Batter → Option Batter → Bool
are_same_batters None None = true
are_same_batters (Some a) (Some b) = side_eq a.side b.side && (a.player == b.player)
are_same_batters a b = false

abbrev pub is_same_result : Outcome → Outcome → Bool
is_same_result Undecided Undecided = true
is_same_result Draw Draw = true
is_same_result Tie Tie = true
is_same_result (Runs s m) (Runs t n) = side_eq s t && (m == n)
is_same_result (Wickets s m) (Wickets t n) = side_eq s t && (m == n)
is_same_result (InningsAnd s m) (InningsAnd t n) = side_eq s t && (m == n)
is_same_result (PenaltyRuns s) (PenaltyRuns t) = side_eq s t
is_same_result a b = false

-- ---- what differs

-- in a player's rows: his fate, or else his runs or balls faced
abbrev pub fates_differ : BattingRow → BattingRow → Bool
fates_differ was now = not (are_same_fates was.fate now.fate)

abbrev pub figures_differ : BattingRow → BattingRow → Bool
figures_differ was now = are_same_fates was.fate now.fate && not (is_same_batting was now)

abbrev pub part_differs : Part → Stage → Stage → ℕ → Side → ℕ → Bool
part_differs Part.Fate was now i side p =
    fates_differ (batting_in was.history i side p) (batting_in now.history i side p)
part_differs Part.Figures was now i side p =
    figures_differ (batting_in was.history i side p) (batting_in now.history i side p)
part_differs Part.Bowling was now i side p =
    not (is_same_bowling (bowling_in was.history i side p) (bowling_in now.history i side p))

abbrev pub differs : Stage → Stage → Change → Bool
differs was now (Change.Player part i side p) = part_differs part was now i side p
differs was now (Change.Total i side) =
    not (are_same_totals (total_in was.history i side) (total_in now.history i side))
differs was now Change.Result =
    not (is_same_result (outcome was.innings_a_side was.history) (outcome now.innings_a_side now.history))
differs was now Change.Strike = not (are_same_batters (striker was.history) (striker now.history))

-- ---- all that can differ, in the order of the rows

-- each player of a side, and of both sides, in innings i
abbrev pub of_players : Part → ℕ → Side → List ℕ → List Change
of_players part i side ps = map (Change.Player part i side) ps

abbrev pub of_sides : Part → ℕ → List Change
of_sides part i = of_players part i Home numbers ++ of_players part i Away numbers

-- each innings that a match can have
abbrev pub in_all : (ℕ → List Change) → List Change
in_all f = f 0 ++ (f 1 ++ (f 2 ++ f 3))

abbrev pub of_totals : ℕ → List Change
of_totals i = Change.Total i Home ∷ Change.Total i Away ∷ []

-- batters' fates, totals, the result and the strike; then batters' other figures, and then bowlers' figures
unfoldable pub all_changes : List Change
all_changes =
    in_all (of_sides Part.Fate) ++ (in_all of_totals ++ (Change.Result ∷ Change.Strike ∷ []
    ++ (in_all (of_sides Part.Figures) ++ in_all (of_sides Part.Bowling))))

unfoldable pub changes : Stage → Stage → List Change
changes was now = filter (differs was now) all_changes
