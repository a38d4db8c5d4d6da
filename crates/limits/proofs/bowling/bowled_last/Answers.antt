use Rattle.std.proofs.Common.{ap, ◌∙◌}
use Rattle.ball_laws.specs.Over.{bowled_in}
use Rattle.limits.proofs.bowling.bowled_last.Goals as goal

pub returns : goal.returns
returns g c = c.bowled_among.ensures ∙ ap (bowled_in c.args.player) c.overs_of-overs.ensures.overs.last
