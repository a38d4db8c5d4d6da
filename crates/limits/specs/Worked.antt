-- Worked rows, computed from a scorecard: three overs a side, two a bowler, free hits, and a powerplay of one over.
--
--   Home                                       runs  balls that count   total
--   over 1  7: . 1 4 nb wd . . 2                 9   6                     9
--   over 2  8: 1 1   9: . 6 1                    9   5, and over called   18
--   over 3  7: . 2 | 1 . 3 4                    10   2 | 6                20 | 28
--   Away, who need 29
--   over 1  3: 4 4 1 . 2 6                      17   6                    17
--   over 2  4: 1 2                               3   2                    20
use Rattle.std.specs.Prelude.{◌≡◌, ℕ, true, false, [], ◌∷◌, Some, None, codes}
use Rattle.notation.specs.declared.entry.Side.TheVariants.{Away}
use Rattle.notation.specs.declared.entry.Kind.TheVariants.{Bat, Wide, Nb}
use Rattle.notation.specs.declared.entry.Bound.TheVariants.{Four, Six}
use Rattle.notation.specs.declared.entry.Cause.TheVariants.{Overs}
use Rattle.notation.specs.declared.entry.Plain.{Plain}
use Rattle.notation.specs.declared.entry.Plain.TheVariants.{Innings, Come, Ball as Bowl, Over, End}
use Rattle.ball_laws.specs.History.{History}
use Rattle.ball_laws.specs.Worked.{ball, opened, with_bound, with_items}
use Rattle.limits.specs.Limits.{Limits, overs_for}
use Rattle.limits.specs.Rates.{an_over, a_ball, two_places}
use Rattle.limits.specs.Figures.{overs_left, deliveries_left, runs_needed, run_rate, last_overs, last_rate, overs_bowled, overs_yet, may_bowl, is_free_hit, powerplay_now}

abbrev pub limits : Limits
limits = record { overs = 3 ∷ []; overs_a_bowler = Some 2; free_hits = true; powerplays = record { first = 1; last = 1 } ∷ [] }

abbrev pub dot : ℕ → Plain
dot n = Bowl (ball n Bat 0)

abbrev pub run : ℕ → ℕ → Plain
run n runs = Bowl (ball n Bat runs)

abbrev pub four : ℕ → Plain
four n = Bowl (with_bound Four (ball n Bat 0))

abbrev pub six : ℕ → Plain
six n = Bowl (with_bound Six (ball n Bat 0))

-- after one delivery; and after five that count, with a No ball and a Wide before the fourth
abbrev pub one_ball : History
one_ball = with_items opened (dot 7 ∷ [])

abbrev pub no_balled : History
no_balled = with_items one_ball (run 7 1 ∷ four 7 ∷ Bowl (ball 7 Nb 0) ∷ [])

abbrev pub wided : History
wided = with_items no_balled (Bowl (ball 7 Wide 0) ∷ [])

abbrev pub five_balls : History
five_balls = with_items wided (dot 7 ∷ dot 7 ∷ [])

abbrev pub six_balls : History
six_balls = with_items five_balls (run 7 2 ∷ [])

-- one delivery too many in the first over, before the umpire calls it
abbrev pub seven_balls : History
seven_balls = with_items six_balls (run 7 2 ∷ [])

-- after the second over, of five deliveries by two bowlers; and in the third over
abbrev pub two_overs : History
two_overs = with_items six_balls (Over ∷ run 8 1 ∷ run 8 1 ∷ dot 9 ∷ six 9 ∷ run 9 1 ∷ Over ∷ [])

abbrev pub in_third : History
in_third = with_items two_overs (dot 7 ∷ run 7 2 ∷ [])

abbrev pub three_overs : History
three_overs = with_items in_third (run 7 1 ∷ dot 7 ∷ run 7 3 ∷ four 7 ∷ Over ∷ [])

-- the reply after one over; and after two deliveries of its second over
abbrev pub reply : History
reply =
    with_items three_overs (End Overs ∷ Innings Away ∷ Come 1 ∷ Come 2
    ∷ four 3 ∷ four 3 ∷ run 3 1 ∷ dot 3 ∷ run 3 2 ∷ six 3 ∷ Over ∷ [])

abbrev pub in_second : History
in_second = with_items reply (run 4 1 ∷ run 4 2 ∷ [])

-- what is left: a Wide and a No ball don't count, and the over of five deliveries counts as one over
pub record WorkedLeft : Type 0 where
  pub of_innings : overs_for limits 0 ∷ overs_for limits 3 ∷ [] ≡ Some 3 ∷ Some 3 ∷ []
  pub at_begin : deliveries_left 3 opened 0 ≡ 18
  pub after_one : deliveries_left 3 one_ball 0 ≡ 17
  pub after_wide : deliveries_left 3 no_balled 0 ∷ deliveries_left 3 wided 0 ∷ [] ≡ 15 ∷ 15 ∷ []
  pub after_five : deliveries_left 3 five_balls 0 ≡ 13
  pub after_six : deliveries_left 3 six_balls 0 ∷ overs_left 3 six_balls 0 ∷ [] ≡ 12 ∷ 3 ∷ []
  pub after_seven : deliveries_left 3 seven_balls 0 ∷ deliveries_left 3 (Over ∷ seven_balls) 0 ∷ [] ≡ 12 ∷ 12 ∷ []
  pub after_short_over : deliveries_left 3 two_overs 0 ∷ overs_left 3 two_overs 0 ∷ [] ≡ 6 ∷ 1 ∷ []
  pub in_last : deliveries_left 3 in_third 0 ≡ 4
  pub after_all : deliveries_left 3 three_overs 0 ∷ overs_left 3 three_overs 0 ∷ [] ≡ 0 ∷ 0 ∷ []

-- what is needed: 29 less 17, then 9 off ten deliveries
pub record WorkedNeeds : Type 0 where
  pub in_first : runs_needed 1 in_third ≡ None
  pub after_one : runs_needed 1 reply ≡ Some 12
  pub left : deliveries_left 3 reply 1 ∷ deliveries_left 3 in_second 1 ∷ [] ≡ 12 ∷ 10 ∷ []
  pub in_over : runs_needed 1 in_second ≡ Some 9
  pub rates : an_over 12 12 ∷ an_over 9 10 ∷ a_ball 9 10 ∷ [] ≡ Some 600 ∷ Some 540 ∷ Some 90 ∷ []

-- rates: 6 * 43 / 31 is 8.3225.., 6 * 1 / 16 is 0.375 and 1 / 8 is 0.125, whose halves are rounded up. Of six overs only
-- the last five count, with 31 runs
pub record WorkedRates : Type 0 where
  pub nearest : an_over 43 31 ∷ an_over 1 16 ∷ a_ball 1 8 ∷ an_over 9 0 ∷ [] ≡ Some 832 ∷ Some 38 ∷ Some 13 ∷ None ∷ []
  pub texts : two_places 832 ∷ two_places 5 ∷ two_places 1200 ∷ [] ≡ codes "8.32" ∷ codes "0.05" ∷ codes "12.00" ∷ []
  pub of_innings : run_rate opened 0 ∷ run_rate two_overs 0 ∷ run_rate in_third 0 ∷ [] ≡ None ∷ Some 900 ∷ Some 857 ∷ []
  pub of_last : last_rate opened ∷ last_rate in_third ∷ last_rate three_overs ∷ [] ≡ None ∷ Some 900 ∷ Some 933 ∷ []
  pub of_five : last_overs (4 ∷ 6 ∷ 0 ∷ 9 ∷ 12 ∷ 30 ∷ []) ≡ Some 620

-- who may bowl: the over of two bowlers counts for both
pub record WorkedBowlers : Type 0 where
  pub bowled : overs_bowled 7 two_overs ∷ overs_bowled 8 two_overs ∷ overs_bowled 9 two_overs ∷ overs_bowled 10 two_overs ∷ [] ≡ 1 ∷ 1 ∷ 1 ∷ 0 ∷ []
  pub yet : overs_yet 2 7 in_third ∷ overs_yet 2 9 in_third ∷ overs_yet 2 10 in_third ∷ [] ≡ 0 ∷ 1 ∷ 2 ∷ []
  pub may : may_bowl (Some 2) 7 in_third ∷ may_bowl None 9 in_third ∷ may_bowl (Some 2) 9 in_third ∷ may_bowl (Some 2) 10 in_third ∷ [] ≡ true ∷ false ∷ false ∷ true ∷ []
  pub may_next : may_bowl (Some 2) 7 three_overs ∷ may_bowl (Some 2) 9 three_overs ∷ may_bowl (Some 2) 10 three_overs ∷ [] ≡ false ∷ true ∷ true ∷ []

-- the free hit after the No ball lasts through the Wide; the powerplay is the first over
pub record WorkedFreedom : Type 0 where
  pub free : is_free_hit one_ball ∷ is_free_hit no_balled ∷ is_free_hit wided ∷ is_free_hit five_balls ∷ [] ≡ false ∷ true ∷ true ∷ false ∷ []
  pub powerplays : powerplay_now limits one_ball 0 ∷ powerplay_now limits two_overs 0 ∷ powerplay_now limits reply 1 ∷ [] ≡ Some 1 ∷ None ∷ None ∷ []
