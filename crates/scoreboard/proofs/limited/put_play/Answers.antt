use Rattle.json_fields.proofs.Putting.{◌▸◌, ends, starts}
use Rattle.scoreboard.proofs.limited.put_play.Goals as goal

pub returns : goal.returns
returns c = ends c.put_figure_or_null.result _ _ (starts c.in_ok-put_bool.ensures ▸ c.in_ok-put_count_or_null.ensures) c.put_figure_or_null.ensures
