-- A board's processes, step by step.
use Rattle.std.proofs.Common.{arith, ◌≡◌, ℕ, Option, Some, None, List, [], ◌∷◌, refl, ap}
use Rattle.std.specs.Prelude.{All, option_map}
use Rattle.cards.specs.Sheet.{Sheet}
use Rattle.agree_core.specs.declared.messages.Message.{Message}
use Rattle.agree_core.specs.Boards.{BoardState, fresh_board}
use Rattle.wire.specs.Layout.{IsMessage}
use Rattle.live.specs.Boards as boards
use Rattle.live.specs.Boards.{BoardCall, BoardStep, BoardTurn, handed, shown}
use Rattle.live.specs.Sights.{Sight}
use Rattle.live.specs.Runs as own
use Rattle.processes.specs.Happenings.{BoardBegun, BoardCalled, BoardGreeted, Happening}
use Rattle.processes.specs.Printing.{Greets, Hands, HandsBook, Prints}
use Rattle.processes.specs.Lives.{BoardProcess, BoardRuns, IsBoardLife, board_calls, board_happens, first_turn}
use Rattle.processes.proofs.Local.{Goes, Local, goes-append}

module _ {Disk : Type 0} where
  -- the board, if there is one, after something that happens there
  abbrev pub next_board : Option BoardState → Happening Disk → Option BoardState
  next_board o (BoardCalled n sheet call out l text seen) = option_map (λ (k : BoardState). l) o
  next_board o (BoardBegun n) = option_map (λ (k : BoardState). fresh_board) o
  next_board o _ = o

module _ (Disk : Type 0) (game innings : ℕ) where
  -- it may happen at this board, whether or not its datagram was sent; and only messages are handed out
  abbrev pub MayBoard : Option BoardState → Happening Disk → Type 0
  MayBoard o (BoardGreeted n sheet text seen) = (k : BoardState) × (o ≡ Some k) × Greets sheet innings k text seen
  MayBoard o (BoardCalled n sheet call out l text seen) =
      (k : BoardState) × (o ≡ Some k) × BoardStep game innings k call out l × Prints sheet innings call l text
      × Hands sheet innings call l seen × All IsMessage out
  MayBoard o what = (k : BoardState) × (o ≡ Some k)

  abbrev pub BoardLocal : Option BoardState → List (Happening Disk) → Type 0
  BoardLocal = Local next_board MayBoard

  -- a board prints the six lines of its book, or nothing, and hands over that book
  prints : (sheet : Sheet) (k l : BoardTurn) (call : BoardCall) (out : List Message) → BoardStep game innings k.board call out l.board
      → Prints sheet innings call l.board (shown sheet innings k call l)
  prints sheet k l call out h = grind arith

  hands : (sheet : Sheet) (k : BoardTurn) (l : BoardState) (call : BoardCall) → Hands sheet innings call l (handed sheet innings k call l)
  hands sheet k l boards.TurnEnded = (k.memory.telling.trouble, refl)
  hands sheet k l call = refl

  calls : (n : ℕ) (s : Sheet) (t : BoardTurn) (first : List Sight) (ms : List (own.Moment BoardTurn BoardCall)) → HandsBook s innings t.board.book first
      → BoardRuns game innings s t ms
      → Goes next_board MayBoard (Some t.board) (board_calls innings n s t first ms) (Some ((λ (k : BoardTurn). k.board) (own.last_of t ms)))
  calls n s t first [] g r = ((tt, (t.board, refl, (refl, g))), refl)
  calls n s t first (m ∷ ms) g r =
      let before = calls n s t first ms g r.0 in
      let k : BoardTurn = own.last_of t ms in
      let l : BoardState = (λ (k : BoardTurn). k.board) m.after in
      ((before.0, (k.board, before.1, r.2.1, prints s k m.after m.call m.out r.2.1, hands s k l m.call, r.1)), ap (option_map (λ (z : BoardState). l)) before.1)

  lives : (n : ℕ) (k : BoardState) (ps : List BoardProcess) → IsBoardLife game innings ps
      → (j : BoardState) × Goes next_board MayBoard (Some k) (board_happens innings n ps) (Some j)
  lives n k [] h = (k, (tt, refl))
  lives n k (p ∷ ps) h =
      let before = lives n k ps h.0 in
      let begins : Goes next_board MayBoard (Some k) (BoardBegun n ∷ board_happens innings n ps) (Some fresh_board) =
      ((before.1.0, (before.0, before.1.1)), ap (option_map (λ (z : BoardState). fresh_board)) before.1.1) in
      let last : BoardState = (λ (t : BoardTurn). t.board) (own.last_of (first_turn p) p.calls) in
      let made : List (Happening Disk) = board_calls innings n p.sheet (first_turn p) p.first p.calls in (
        last,
        goes-append next_board MayBoard (Some k) (Some fresh_board) (Some last) made (BoardBegun n ∷ board_happens innings n ps) begins
            (calls n p.sheet (first_turn p) p.first p.calls h.1.0 h.1.1),
      )

  -- what happens at a board's number, whether or not a board has it
  pub board_life : (n : ℕ) (o : Option BoardState) (hs : List (Happening Disk))
      → (ps : List BoardProcess) × IsBoardLife game innings ps × (hs ≡ board_happens innings n ps) → (o ≡ None → hs ≡ []) → BoardLocal o hs
  board_life n None hs life none = rw (none refl) tt
  board_life n (Some k) hs life none = rw life.2 (lives n k life.0 life.1).1.0
