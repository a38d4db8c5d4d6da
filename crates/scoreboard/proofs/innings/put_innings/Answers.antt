use Rattle.json_fields.proofs.Putting.{◌▸◌, begins, is_object}
use Rattle.scoreboard.proofs.innings.put_innings.Goals as goal

pub returns : goal.returns
returns c = λ n h s falls.
    is_object c.end_object.result _ (begins c.in_ok-begin_object.ensures ▸ (c.in_ok-put_score.ensures n h s) ▸ (c.in_ok-put_players.ensures n h s) ▸ (c.in_ok-put_batting.ensures n h s)
    ▸ (c.in_ok-put_bowling.ensures n h s) ▸ (c.in_ok-put_falls_of.ensures n h s falls)) c.end_object.ensures
