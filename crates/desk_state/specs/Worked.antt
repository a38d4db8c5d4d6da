-- Worked examples, computed from the overs of limits' scorecard: 7 bowls the first over and the third, 8 and 9 share the
-- second; a bowler may bowl two overs. Away need 12 more after an over of their innings.
use Rattle.std.specs.Prelude.{◌≡◌, ℕ, List, [], ◌∷◌, ◌++◌, map, codes}
use Rattle.notation.specs.declared.entry.Side.TheVariants.{Home}
use Rattle.notation.specs.declared.entry.Kind.TheVariants.{Bat}
use Rattle.notation.specs.declared.entry.How.TheVariants.{Bowled}
use Rattle.notation.specs.declared.entry.Who.TheVariants.{Striker}
use Rattle.notation.specs.declared.entry.Leave.TheVariants.{TimedOut, RetiredHurt}
use Rattle.notation.specs.declared.entry.Cause.TheVariants.{Overs}
use Rattle.notation.specs.declared.entry.{Plain.Plain, Entry.Entry}
use Rattle.notation.specs.declared.entry.Plain.TheVariants.{Innings, Come, Ball as Bowl, Gone, Over, End, Close}
use Rattle.notation.specs.declared.entry.Entry.TheVariants.{Write, Fix, Late}
use Rattle.ball_laws.specs.History.{History}
use Rattle.ball_laws.specs.Over.{numbers}
use Rattle.ball_laws.specs.Worked.{ball, opened, with_items, with_out}
use Rattle.limits.specs.Worked.{limits, dot, run, four, six, one_ball, five_balls, six_balls, two_overs, in_third, three_overs, reply}
use Rattle.cards.specs.Sheet.{Sheet, plain_sheet}
use Rattle.desk_state.specs.declared.wants.Wants.{Wants}
use Rattle.desk_state.specs.Wants.{wants}
use Rattle.desk_state.specs.Players.{batters, bowlers}
use Rattle.desk_state.specs.Over.{over_shown}
use Rattle.desk_state.specs.Book.{book_text, news_from}

abbrev pub begun : History
begun = Innings Home ∷ []

-- batter 1, the striker, is bowled
abbrev pub one_out : History
one_out = with_items one_ball (Bowl (with_out Bowled Striker 0 (ball 7 Bat 0)) ∷ [])

-- batter 2 retires hurt; then 4 is timed out, so that 2 may come in again
abbrev pub one_hurt : History
one_hurt = with_items one_ball (Gone RetiredHurt 2 ∷ [])

abbrev pub one_timed_out : History
one_timed_out = with_items one_hurt (Gone TimedOut 4 ∷ [])

abbrev pub won : History
won = with_items reply (six 4 ∷ six 4 ∷ [])

pub record WorkedWants : Type 0 where
  pub at_begin : wants 1 [] ∷ wants 1 begun ∷ wants 1 opened ∷ [] ≡ Wants.Innings ∷ Wants.Batter ∷ Wants.Bowler ∷ []
  pub in_over : wants 1 one_ball ∷ wants 1 five_balls ∷ wants 1 six_balls ∷ [] ≡ Wants.Ball ∷ Wants.Ball ∷ Wants.Over ∷ []
  pub after_over : wants 1 two_overs ∷ wants 1 three_overs ∷ [] ≡ Wants.Bowler ∷ Wants.Bowler ∷ []
  pub after_wicket : wants 1 one_out ∷ wants 1 one_hurt ∷ [] ≡ Wants.Batter ∷ Wants.Batter ∷ []
  pub after_innings : wants 1 (End Overs ∷ three_overs) ∷ wants 1 won ∷ wants 1 (Close ∷ one_ball) ∷ [] ≡ Wants.Innings ∷ Wants.Nothing ∷ Wants.Nothing ∷ []

pub record WorkedBatters : Type 0 where
  pub at_begin : batters 1 [] ∷ batters 1 begun ∷ batters 1 opened ∷ [] ≡ [] ∷ numbers ∷ [] ∷ []
  pub after_wicket : batters 1 one_out ≡ 3 ∷ 4 ∷ 5 ∷ 6 ∷ 7 ∷ 8 ∷ 9 ∷ 10 ∷ 11 ∷ []
  pub hurt : batters 1 one_hurt ≡ 3 ∷ 4 ∷ 5 ∷ 6 ∷ 7 ∷ 8 ∷ 9 ∷ 10 ∷ 11 ∷ []
  pub returns : batters 1 one_timed_out ≡ 2 ∷ 3 ∷ 5 ∷ 6 ∷ 7 ∷ 8 ∷ 9 ∷ 10 ∷ 11 ∷ []

abbrev pub sheet : Sheet
sheet = record (plain_sheet 1 1) { limits = limits }

pub record WorkedBowlers : Type 0 where
  pub at_begin : bowlers sheet 1 [] ∷ bowlers sheet 1 begun ∷ bowlers sheet 1 one_out ∷ [] ≡ [] ∷ numbers ∷ numbers ∷ []
  pub after_two : bowlers sheet 1 two_overs ≡ 1 ∷ 2 ∷ 3 ∷ 4 ∷ 5 ∷ 6 ∷ 7 ∷ 10 ∷ 11 ∷ []
  pub in_over : bowlers sheet 1 in_third ≡ 1 ∷ 2 ∷ 3 ∷ 4 ∷ 5 ∷ 6 ∷ 7 ∷ 10 ∷ 11 ∷ []
  pub after_three : bowlers sheet 1 three_overs ≡ 1 ∷ 2 ∷ 3 ∷ 4 ∷ 5 ∷ 6 ∷ 8 ∷ 9 ∷ 10 ∷ 11 ∷ []
  pub after_match : bowlers sheet 1 (End Overs ∷ three_overs) ∷ bowlers sheet 1 won ∷ [] ≡ [] ∷ [] ∷ []

-- two deliveries at places 3 and 4; at 5 a delivery that belongs after the first; at 6 a correction of 4
abbrev pub late_book : List Entry
late_book =
    Write (Innings Home) ∷ Write (Come 1) ∷ Write (Come 2) ∷ Write (run 7 1) ∷ Write (dot 7) ∷ Late 3 (run 7 2) ∷ Fix 4 (four 7) ∷ []

-- the same deliveries; then over is called, and a correction says that there was no delivery at place 3
abbrev pub called_book : List Entry
called_book =
    Write (Innings Home) ∷ Write (Come 1) ∷ Write (Come 2) ∷ Write (run 7 1) ∷ Write (dot 7) ∷ Late 3 (run 7 2) ∷ Write Over
    ∷ Fix 3 Plain.Void ∷ []

-- the book of late_book as a page has it: 1 runs one, and so 2 faces the next deliveries
abbrev pub late_text : List ℕ
late_text =
    codes "{\"entries\":7,\"items\":[{\"place\":0,\"line\":\"innings home\",\"by\":null},"
    ++ codes "{\"place\":1,\"line\":\"in 1\",\"by\":null},{\"place\":2,\"line\":\"in 2\",\"by\":null},"
    ++ codes "{\"place\":3,\"line\":\"ball 7 bat 1\",\"innings\":1,\"over\":1,\"ball\":1,\"batter\":1,\"bowler\":7,\"mark\":\"1\",\"by\":null},"
    ++ codes "{\"place\":5,\"line\":\"ball 7 bat 2\",\"innings\":1,\"over\":1,\"ball\":2,\"batter\":2,\"bowler\":7,\"mark\":\"2\",\"by\":null},"
    ++ codes "{\"place\":4,\"line\":\"ball 7 bat 0 four\",\"innings\":1,\"over\":1,\"ball\":3,\"batter\":2,\"bowler\":7,\"mark\":\"4\",\"by\":6}]}\n"

pub record WorkedBook : Type 0 where
  pub text : book_text late_book ≡ late_text
  pub empty : book_text [] ≡ codes "{\"entries\":0,\"items\":[]}\n"
  pub news : news_from [] ∷ news_from late_book ∷ news_from called_book ∷ [] ≡ 0 ∷ 5 ∷ 3 ∷ []

abbrev pub places : List Entry → List ℕ
places book = map (λ d. d.place) (over_shown book)

pub record WorkedPlaces : Type 0 where
  pub late : places late_book ≡ 3 ∷ 5 ∷ 4 ∷ []
  pub called : places called_book ≡ 5 ∷ 4 ∷ []
