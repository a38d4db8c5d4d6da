-- The cards of an innings, made of its figures f. The sheet s, the history h and the number i of the innings give the rest.
use Rattle.std.specs.Prelude.{ℕ, List, ◌++◌, codes, decimal}
use Rattle.ball_laws.specs.History.{History}
use Rattle.match_laws.specs.History.{opponent}
use Rattle.cards.specs.Sheet.{Sheet, name_of}
use Rattle.cards.specs.Columns.{lines_for, lines_from}
use Rattle.cards.specs.Batting as batting
use Rattle.cards.specs.Bowling as bowling
use Rattle.same_figures.specs.Figures.{Figures}

abbrev pub total_line : Figures → List ℕ
total_line f =
    codes "Total " ++ decimal f.total ++ codes " for " ++ decimal f.wickets
    ++ codes " (" ++ decimal f.overs ++ codes "." ++ decimal f.balls ++ codes " overs)\n"

abbrev pub batting_card : Sheet → History → ℕ → Figures → List ℕ
batting_card s h i f =
    batting.heading s h i
    ++ lines_for (λ p. batting.row_line s f.side p (f.batter p)) f.batters
    ++ batting.extras_text f.extras
    ++ total_line f
    ++ lines_from (batting.fall_line s f.side) 1 f.falls

abbrev pub bowling_card : Sheet → History → ℕ → Figures → List ℕ
bowling_card s h i f =
    name_of s (opponent f.side) ++ codes " bowling\n"
    ++ lines_for (λ p. bowling.row_line s (opponent f.side) p (f.bowler p)) f.bowlers
    ++ bowling.odd_overs_line h i

abbrev pub both_cards : Sheet → History → ℕ → Figures → List ℕ
both_cards s h i f = batting_card s h i f ++ bowling_card s h i f
