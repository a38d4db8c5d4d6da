use Rattle.processes.proofs.Stations.{board_life}
use Rattle.processes.proofs.laws.kept_boards_are_lives.Goals as goal

pub returns : goal.returns
returns g c = board_life g.B.BookOf.content g.B.BookOf.innings_a_side c.args.old.now c.args.new.now
