use Rattle.std.proofs.Common.{arith}
use Rattle.match_command.proofs.TurnLemmas.{one_round}
use Rattle.match_command.proofs.match_run.turns.Stations.agree.Goals as goal

pub returns-then-have_more-clause-online : goal.returns-then-have_more-clause-online
returns-then-have_more-clause-online g c =
    let m = c.loop.invariant in
    one_round c.args.self.now.board c.loop.self.board c.board_turn.new.board m.0 m.1 m.3 m.4 m.2.game m.5 c.in_ok-desk_turn.ensures.online
    c.in_ok-desk_turn-2.ensures.online c.board_turn.ensures.online

pub loop-preserved : goal.loop-preserved
loop-preserved g c =
    let m = c.loop.invariant in (
      grind (arith, m.0, c.in_ok-desk_turn.ensures.kept),
      grind (arith, m.1, c.in_ok-desk_turn-2.ensures.kept),
      grind (arith, m.2, c.board_turn.ensures.same),
      grind (arith, m.3, c.desk_turn.ensures.disk),
      grind (arith, m.4, c.desk_turn-in-loop.ensures.disk),
      one_round c.args.self.now.board c.loop.self.board c.board_turn.new.board m.0 m.1 m.3 m.4 m.2.game m.5 c.in_ok-desk_turn.ensures.online
          c.in_ok-desk_turn-2.ensures.online c.board_turn.ensures.online,
    )
