use Rattle.std.proofs.Common.{List, ℕ, Option, ◌<◌, ◌≡◌}
use Rattle.std.specs.Prelude.{IsSome}
use Rattle.board.specs.Board.{game_of}
use Rattle.cards.specs.Sheet.{Sheet}
use Rattle.live.specs.Boards.{BoardGoes, in_turn, memory_of}
use Rattle.live.specs.Hearings.{Hears}
use Rattle.live.specs.Paces.{ticking_of}
use Rattle.live.specs.Runs.{untyped}
use Rattle.live.specs.Sights.{Sight}
use Rattle.live.proofs.board_loop.take_all.Given as goal

abbrev pub invariant-loop-taken : goal.invariant-loop-taken
invariant-loop-taken g l =
    ((sheet : Sheet) (told : Option (List ℕ)) (seen : List Sight) (turns had : ℕ) → BoardGoes g.B.BookOf.content g.B.BookOf.innings_a_side sheet l.initial.board l.board
    (in_turn g.B.BookOf.content l.initial.board turns had 0 (memory_of l.initial.between.telling l.initial.watch.witness l.initial.between.later) (ticking_of l.initial.between.pace) (g.N.Notices.told l.initial.watch.notices) seen)
    (in_turn g.B.BookOf.content l.board turns had l.taken (memory_of l.between.telling l.watch.witness l.between.later) (ticking_of l.between.pace) (g.N.Notices.told l.watch.notices) seen)
    (untyped (g.L.Link.log l.initial.link) (g.C.Clock.readings l.initial.clock) told) (untyped (g.L.Link.log l.link) (g.C.Clock.readings l.clock) told))
    × (0 < l.taken → IsSome (ticking_of l.between.pace).looked)
    × (game_of l.board ≡ game_of l.initial.board)
    × Hears (game_of l.initial.board) (g.L.Link.log l.initial.link) (g.L.Link.log l.link) (g.C.Clock.readings l.initial.clock) (g.C.Clock.readings l.clock)
    (g.S.Shows.heard l.initial.state) (g.S.Shows.heard l.state)
    × (g.S.Shows.seen l.state ≡ g.S.Shows.seen l.initial.state)
    × (g.S.Shows.failed l.state ≡ g.S.Shows.failed l.initial.state)
