-- The rows of the changes. s is the sheet; `was` and `now` are the stages, or what they show.
use Rattle.std.specs.Prelude.{ℕ, ◌+◌, ◌==◌, ◌&&◌, nat_le, if◌then◌else◌, Bool, true, false, Option, Some, None, List, [], ◌++◌, length, codes, decimal}
use Rattle.notation.specs.declared.entry.Side.{Side}
use Rattle.ball_laws.specs.History.{History}
use Rattle.match_laws.specs.declared.rows.{Fate.Fate, BattingRow.BattingRow, BowlingRow.BowlingRow}
use Rattle.match_laws.specs.declared.outcome.Outcome.{Outcome}
use Rattle.match_laws.specs.History.{opponent}
use Rattle.match_laws.specs.Result.{current, outcome}
use Rattle.cards.specs.Sheet.{Sheet, name_of, player_of}
use Rattle.cards.specs.Dismissals.{fate_text}
use Rattle.cards.specs.Bowling.{overs_of}
use Rattle.cards.specs.Results.{result_text}
use Rattle.changes.specs.declared.stage.{Total.Total, Batter.Batter}
use Rattle.changes.specs.declared.change.{Part.Part, Change.Change}
use Rattle.changes.specs.Changes.{is_same_wides}
use Rattle.changes.specs.Stage.{Stage, batting_in, bowling_in, total_in, striker}

-- the lead of a row about innings i: its number; `lead` has `now` for the innings that began last
abbrev pub innings_lead : ℕ → List ℕ
innings_lead i =
    if i == 0 then codes "innings 1: " else (if i == 1 then codes "innings 2: "
    else (if i == 2 then codes "innings 3: " else codes "innings 4: "))

abbrev pub lead : History → ℕ → List ℕ
lead h i = if i == current h then codes "now: " else innings_lead i

-- the name that a row is about, after the lead
abbrev pub named : List ℕ → List ℕ → List ℕ
named first name = first ++ name ++ codes " "

-- the text before the old state: in the same row if both may share one and its columns suffice, or else in a
-- second row
abbrev pub joint : Bool → List ℕ
joint is_one = if is_one then codes ", was " else codes ",\n  was "

abbrev pub fits : Sheet → List ℕ → List ℕ → Bool
fits s now was = nat_le (length now + (6 + length was)) s.columns

abbrev pub joined : Sheet → Bool → List ℕ → List ℕ → List ℕ
joined s may_share now was = now ++ (joint (may_share && fits s now was) ++ (was ++ codes "\n"))

-- ---- batters

-- runs, and balls faced
abbrev pub figures_text : BattingRow → List ℕ
figures_text row = decimal row.runs ++ codes " (" ++ decimal row.faced ++ codes ")"

-- the fate of a batter of the side, as the card shows it, and his figures
abbrev pub fate_figures : Sheet → Side → Option Fate → BattingRow → List ℕ
fate_figures s side None row = codes "not in"
fate_figures s side (Some fate) row = fate_text s (opponent side) (Some fate) ++ (codes " " ++ figures_text row)

abbrev pub batting_text : Sheet → Side → BattingRow → List ℕ
batting_text s side row = fate_figures s side row.fate row

abbrev pub fate_row : Sheet → List ℕ → Side → ℕ → BattingRow → BattingRow → List ℕ
fate_row s first side p was now =
    joined s true (named first (player_of s side p) ++ batting_text s side now) (batting_text s side was)

abbrev pub figures_row : Sheet → List ℕ → Side → ℕ → BattingRow → BattingRow → List ℕ
figures_row s first side p was now =
    joined s true (named first (player_of s side p) ++ figures_text now) (figures_text was)

-- ---- bowlers: overs, maidens, runs and wickets

abbrev pub behind_overs : BowlingRow → List ℕ
behind_overs row = codes "-" ++ decimal row.maidens ++ codes "-" ++ decimal row.runs ++ codes "-" ++ decimal row.wickets

-- wide runs and no balls, as a card has them
abbrev pub wides_text : BowlingRow → List ℕ
wides_text row = codes ", w " ++ decimal row.wides ++ codes ", nb " ++ decimal row.noballs

abbrev pub bowling_text : Bool → BowlingRow → List ℕ
bowling_text same row = overs_of row ++ (behind_overs row ++ (if same then [] else wides_text row))

-- if wide runs or no balls differ they are shown too, and the old figures go in a second row
abbrev pub bowling_row : Sheet → List ℕ → Side → ℕ → BowlingRow → BowlingRow → List ℕ
bowling_row s first side p was now =
    let same = is_same_wides was now in
    joined s same (named first (player_of s side p) ++ bowling_text same now) (bowling_text same was)

-- ---- of a match

-- total, wickets, and overs
abbrev pub total_text : Option Total → List ℕ
total_text None = codes "not begun"
total_text (Some t) =
    decimal t.total ++ codes " for " ++ decimal t.wickets ++ codes " (" ++ decimal t.overs ++ codes "." ++ decimal t.balls ++ codes ")"

abbrev pub total_row : Sheet → List ℕ → Side → Option Total → Option Total → List ℕ
total_row s first side was now =
    joined s true (named first (name_of s side) ++ total_text now) (total_text was)

abbrev pub words_or_none : Option (List ℕ) → List ℕ
words_or_none None = codes "no result"
words_or_none (Some words) = words

abbrev pub result_words : Sheet → Outcome → List ℕ
result_words s result = words_or_none (result_text s result)

-- in two rows
abbrev pub result_row : Sheet → Outcome → Outcome → List ℕ
result_row s was now = joined s false (codes "now: " ++ result_words s now) (result_words s was)

abbrev pub batter_name : Sheet → Option Batter → List ℕ
batter_name s None = codes "nobody"
batter_name s (Some b) = player_of s b.side b.player

abbrev pub strike_row : Sheet → Option Batter → Option Batter → List ℕ
strike_row s was now =
    joined s true (named (codes "now: ") (batter_name s now) ++ codes "on strike") (batter_name s was)

-- ---- the row of each

abbrev pub part_row : Sheet → Part → Stage → Stage → ℕ → Side → ℕ → List ℕ
part_row s Part.Fate was now i side p =
    fate_row s (lead now.history i) side p (batting_in was.history i side p) (batting_in now.history i side p)
part_row s Part.Figures was now i side p =
    figures_row s (lead now.history i) side p (batting_in was.history i side p) (batting_in now.history i side p)
part_row s Part.Bowling was now i side p =
    bowling_row s (lead now.history i) side p (bowling_in was.history i side p) (bowling_in now.history i side p)

abbrev pub row : Sheet → Stage → Stage → Change → List ℕ
row s was now (Change.Player part i side p) = part_row s part was now i side p
row s was now (Change.Total i side) =
    total_row s (lead now.history i) side (total_in was.history i side) (total_in now.history i side)
row s was now Change.Result =
    result_row s (outcome was.innings_a_side was.history) (outcome now.innings_a_side now.history)
row s was now Change.Strike = strike_row s (striker was.history) (striker now.history)
