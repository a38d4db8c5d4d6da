use Rattle.live.proofs.LostLemmas.{comes_before}
use Rattle.live.proofs.lost_lines.is_before.Goals as goal

pub returns : goal.returns
returns c = comes_before c.is_before.result c.args.at c.args.other c.is_before.ensures
