use Rattle.json_fields.proofs.Putting.{◌▸◌, ends, starts}
use Rattle.scoreboard.proofs.limited.put_left.Goals as goal

pub returns : goal.returns
returns c = ends c.put_figure_or_null-2.result _ _ (starts c.in_ok-put_overs_or_null.ensures ▸ c.in_ok-put_figure_or_null.ensures) c.put_figure_or_null-2.ensures
