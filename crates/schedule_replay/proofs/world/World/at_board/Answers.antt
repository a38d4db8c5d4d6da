use Rattle.std.proofs.Common.{refl, ap, ◌∙◌, ℕ}
use Rattle.schedule_replay.specs.Refusals.{no_board}
use Rattle.schedule_replay.proofs.BoardLemmas.{IsThere, board_admits_not, board_steps, is_there, same_owner, wipes}
use Rattle.schedule_replay.proofs.world.World.at_board.Goals as goal
use Rattle.schedule_replay.proofs.world.World.at_board.Goals.{After-index_mut-board}

there : (c : After-index_mut-board) → IsThere c.args.number c.args.self.now c.args.event.now c.index_mut-board.result.now
there c =
    let world = c.args.self.now in
    is_there c.args.event.now c.no_board-missing.ensures (c.len.ensures ∙ world.boards.ok.0) c.in-Ok.ensures.admitted c.index_mut-board.ensures.value

pub returns-in-Give-clause-step : goal.returns-in-Give-clause-step
returns-in-Give-clause-step c =
    board_steps c.args.number c.args.self.now _ c.args.event.now c.requires.here (record { a = refl; b = refl; same_game = refl; same_innings = refl }) c.index_mut-board.result.now c.give_board.new.board c.give_board.result
    (there (goal.at.returns-in-Give-clause-step c).After-index_mut-board) refl (same_owner _ _ _ _ c.give_board.ensures.same)
    (rw (c.in-Give.is, ← c.in-Ok.ensures.items, ← c.deref.ensures.value) (c.give_board.ensures.step c.in-Give.field-1))

pub returns-in-Tick-clause-step : goal.returns-in-Tick-clause-step
returns-in-Tick-clause-step c =
    board_steps c.args.number c.args.self.now _ c.args.event.now c.requires.here (record { a = refl; b = refl; same_game = refl; same_innings = refl }) c.index_mut-board.result.now c.index_mut-board.result.now c.tick_board.result
    (there (goal.at.returns-in-Tick-clause-step c).After-index_mut-board) refl (λ of. of)
    (rw (c.in-Tick.is, ← c.in-Ok.ensures.items) (c.tick_board.ensures.step c.in-Tick.field-0))

pub returns-in-Wipe : goal.returns-in-Wipe
returns-in-Wipe c =
    let p = wipes c.args.number c.args.self.now _ c.args.event.now c.requires.here (record { a = refl; b = refl; same_game = refl; same_innings = refl })
    c.in-Wipe.field-0 c.index_mut-board.result.now c.wipe_board.new.board c.wipe_board.result
    c.in-Wipe.is (there (goal.at.returns-in-Wipe c).After-index_mut-board) refl c.in-Ok.ensures.items
    c.wipe_board.ensures.step c.wipe_board.ensures.owner c.wipe_board.ensures.refused in
    record { step = p.0; refused = p.1; same = record { same_game = refl; same_innings = refl } }

pub returns-in-Err-clause-refused : goal.returns-in-Err-clause-refused
returns-in-Err-clause-refused c =
    let missing = c.no_board-missing.ensures ∙ ap (λ (m : ℕ). no_board m c.args.number) (c.len.ensures ∙ (c.args.self.now).boards.ok.0) in
    board_admits_not c.args.number c.args.self.now _ c.args.event.now c.requires.here (record { a = refl; b = refl; same_game = refl; same_innings = refl }) c.in-Err.why refl c.in-Err.ensures.items
    (rw missing at c.in-Err.ensures.refused)
