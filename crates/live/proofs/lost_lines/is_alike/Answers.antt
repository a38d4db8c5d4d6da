use Rattle.live.proofs.LostLemmas.{is_coded}
use Rattle.live.proofs.lost_lines.is_alike.Goals as goal

pub returns : goal.returns
returns c = is_coded c.is_same.result c.args.entry.now c.args.other.now c.requires.entry c.requires.other c.is_same.ensures
