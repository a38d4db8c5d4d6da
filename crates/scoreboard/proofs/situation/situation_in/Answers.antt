use Rattle.std.proofs.Common.{ap, ◌∙◌}
use Rattle.corrections.specs.CleanList.{history_of}
use Rattle.limits.specs.Limits.{Limits}
use Rattle.limits.specs.Rates.{an_over, a_ball}
use Rattle.limits.specs.Figures.{powerplay_now}
use Rattle.scoreboard.specs.Limited.{balls_in, bowled_by, overs_in, rate_of}
use Rattle.scoreboard.proofs.situation.situation_in.Goals as goal

pub returns : goal.returns
returns g c = λ are.
    let h = history_of (g.B.BookOf.content c.args.book.now) in
    let stands = c.score-score.ensures.score in
    let overs = c.overs_open-most.ensures _ _ stands in
    let left = c.balls_in-left.ensures _ _ stands ∙ ap (balls_in h c.args.innings) overs in
    let needed = c.runs_needed-needed.ensures _ _ stands in
    let over = c.needed_an_over.ensures ∙ (λ i. rate_of an_over (needed i) (left i)) in
    let ball = c.needed_a_ball.ensures ∙ (λ i. rate_of a_ball (needed i) (left i)) in
    let overs_left = c.overs_in.ensures _ _ stands ∙ ap (overs_in h c.args.innings) overs in
    let rate = c.run_rate.ensures _ _ stands in
    let powerplay = c.powerplay_now.ensures _ _ stands ∙ ap (λ (l : Limits). powerplay_now l h c.args.innings) c.limits.ensures in
    let bowler = c.bowled_by.ensures ∙ ap (bowled_by h) (c.bowler.ensures h are) in
    λ i. record {
      overs = overs i;
      overs_left = overs_left i;
      balls_left = left i;
      needed_an_over = over i;
      needed_a_ball = ball i;
      run_rate = rate i;
      last_rate = c.last_rate.ensures i;
      free_hit = c.is_free_now.ensures i;
      powerplay = powerplay i;
      bowler_overs = bowler i;
    }
