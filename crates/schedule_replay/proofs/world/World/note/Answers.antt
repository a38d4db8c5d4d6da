use Rattle.std.proofs.Common.{◌≡◌, ◌<◌, ◌∙◌, ℕ, List, Some, length, ap, arith, refl}
use Rattle.std.proofs.lemmas.Option.{slice_get_read}
use Rattle.std.specs.Prelude.{slice_get, slice_index_or}
use Rattle.corrections.specs.Book.{Contents}
use Rattle.agree_core.specs.declared.messages.DeskId.TheVariants.{A, B}
use Rattle.schedule_replay.specs.CodeWorlds.{MatchBoard}
use Rattle.schedule_replay.specs.inner.ShownScores.{BookShows, board_book}
use Rattle.schedule_replay.proofs.ShowLemmas.{adds_book, all_noted, all_scored, board_name, desk_name, desk_noted, none_noted, noted_next, one_noted, scored_next}
use Rattle.schedule_replay.proofs.world.World.note.Goals as goal
use Rattle.schedule_replay.proofs.world.World.note.Goals.{After-shown}

pub note-requires-clause-one : goal.note-requires-clause-one
note-requires-clause-one c = let w = c.requires.notable in one_noted (desk_name A w.1) w.1 (none_noted c.args.self.now _)

pub note-requires-2-clause-one : goal.note-requires-2-clause-one
note-requires-2-clause-one c =
    let w = c.requires.notable in one_noted (desk_name B w.1) w.1 (desk_noted A w.1 refl (none_noted c.args.self.now _) c.in_ok-note.ensures.noted)

pub loop-number-init : goal.loop-number-init
loop-number-init c = let w = c.requires.notable in (
  desk_noted B w.1 refl (desk_noted A w.1 refl (none_noted c.args.self.now _) c.in_ok-note.ensures.noted) c.in_ok-note-2.ensures.noted,
  c.in_ok-note-2.ensures.kept,
  omega arith,
  λ i less. absurd (omega (arith, less)),
)

board_there : (items boards : List MatchBoard) (i : ℕ) (k : MatchBoard) → boards ≡ items → i < length boards
    → k ≡ slice_index_or boards i k → slice_get items i ≡ Some k
board_there items boards i k same less e = rw (← same) (slice_get_read boards _ i k refl less e)

there : (c : After-shown) → slice_get c.args.self.now.boards.items c.loop-number.number ≡ Some c.board-item.result
there c =
    let items = c.deref-board-items in
    board_there c.args.self.now.boards.items items.result.now c.loop-number.number _ items.ensures.value c.loop-number-test.true c.board-item.is

shows : (c : After-shown) → BookShows (board_book (slice_get c.args.self.now.boards.items c.loop-number.number)) c.len.result c.shown.result.now
shows c = rw (there c) (c.len.ensures.entries ∙ ap (λ (b : Contents). length b.entries) c.book.ensures, c.shown.ensures)

pub note-requires-in-loop-number-clause-one : goal.note-requires-in-loop-number-clause-one
note-requires-in-loop-number-clause-one c = λ other stands.
    let w = c.requires.notable in
    let own = shows (goal.at.note-requires-in-loop-number-clause-one c).After-shown in
    one_noted (board_name c.loop-number.number) w.1 c.loop-number.invariant.0 c.len.result c.shown.result.now other stands own

pub loop-number-preserved : goal.loop-number-preserved
loop-number-preserved c =
    let at = (goal.at.loop-number-preserved c).After-shown in (
      noted_next (omega arith) (omega arith) (omega arith) (board_name c.loop-number.number) c.loop-number.invariant.0
          (adds_book _ _ _ _ _ _ (shows at) c.in_ok-note-3.ensures.noted),
      c.in_ok-note-3.ensures.kept,
      (let less = c.loop-number-test.true in omega (arith, less, ap length c.deref-board-items.ensures.value)),
      scored_next c.args.self.now c.loop-number.number c.board-item.result c.loop-number.invariant.3 (there at) (c.shown.result.now, c.shown.ensures),
    )

pub returns : goal.returns
returns c =
    let m = c.loop-number.invariant in
    let past = c.loop-number-test.false in
    let same = ap length c.deref-board-items.ensures.value in
    record {
      noted = all_noted (omega (arith, past, same)) m.0;
      scored = all_scored c.args.self.now c.loop-number.number (omega (arith, past, same)) c.in_ok-note.ensures.scored c.in_ok-note-2.ensures.scored m.3;
      kept = m.1;
    }
