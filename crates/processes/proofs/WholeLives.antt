-- In woven lives no board drops a vote as one that shows that a desk's file lacks lines.
use Rattle.std.proofs.Common.{arith, ◌≡◌, ℕ, true, Option, Some, None, List, [], ◌∷◌, cond, refl, sym, ap, ◌∙◌}
use Rattle.std.specs.Prelude.{is_some}
use Rattle.std.specs.List.{filter}
use Rattle.std.proofs.lemmas.Bool.{eq-eqb}
use Rattle.entry_log.specs.Disk.{Faults, Images}
use Rattle.vote_store.specs.View.{file_view}
use Rattle.cards.specs.Sheet.{Sheet}
use Rattle.agree_core.specs.declared.messages.{Message.Message, Vote.Vote}
use Rattle.agree_core.specs.Boards.{BoardState, fresh_board}
use Rattle.board.specs.Rounds.{parts}
use Rattle.board.proofs.Recalling.{parts_recalled}
use Rattle.board.specs.declared.witness.Round.{Round}
use Rattle.wire.specs.Layout.{Says}
use Rattle.headline.specs.Configurations.{Configuration, board_at}
use Rattle.headline.proofs.Given.{given_vote}
use Rattle.live.specs.Boards as boards
use Rattle.live.specs.Boards.{BoardCall, BoardTurn, MayCall, after_call}
use Rattle.live.specs.Runs as own
use Rattle.live.specs.Sights.{Sight}
use Rattle.processes.specs.Happenings.{BoardBegun, BoardCalled, Flow, Happening, Happens, after, after_one}
use Rattle.processes.specs.Laws.{IsFlow}
use Rattle.processes.specs.Lives.{BoardProcess, BoardRuns, IsBoardLife, board_calls, board_happens, first_turn}
use Rattle.processes.specs.Parting.{IsParted, NoneIsParted, rounds_at, rounds_called}
use Rattle.processes.specs.Weaving.{WovenLivesPartNone, is_at_board, start}
use Rattle.processes.proofs.BoardLives.{next_board}
use Rattle.processes.proofs.FlowLaws.{flows_have_headline}
use Rattle.processes.proofs.Local.{Goes, Local, goes-append, local-one, nexts, nexts-one}
use Rattle.processes.proofs.Weaving.{board_then}
use Rattle.processes.proofs.WeavingLaws.{woven_lives_flow}

-- the board, if there is one, and the rounds that it has heard whole
pub record Hearing : Type 0 where
  pub board : Option BoardState
  pub rounds : List Round

module _ {Disk : Type 0} where
  abbrev next_rounds : Hearing → Happening Disk → List Round
  next_rounds s (BoardCalled n sheet call out l text seen) = rounds_called s.board call s.rounds
  next_rounds s (BoardBegun n) = []
  next_rounds s what = s.rounds

  abbrev next_heard : Hearing → Happening Disk → Hearing
  next_heard s h = record { board = next_board s.board h; rounds = next_rounds s h }

module _ (Disk : Type 0) (game innings : ℕ) where
  -- a vote is dropped only if it contradicts one of these rounds
  abbrev MayDrop : List Round → BoardCall → Type 0
  MayDrop rounds (boards.Parted bytes back) = (v : Vote) × Says game bytes (Message.Vote v) × (parts rounds v ≡ true)
  MayDrop rounds call = Unit {0}

  abbrev MayHear : Hearing → Happening Disk → Type 0
  MayHear s (BoardCalled n sheet call out l text seen) = MayDrop s.rounds call
  MayHear s what = Unit {0}

  drops : (k : BoardTurn) (call : BoardCall) → MayCall game k call → MayDrop k.memory.rounds call
  drops k (boards.Parted bytes back) m = (m.2, m.3, sym (parts_recalled m.2 k.memory.rounds) ∙ ap is_some m.4.1)
  drops k call m = tt

  rounds_on : (sheet : Sheet) (k : BoardTurn) (call : BoardCall) (l : BoardState)
      → rounds_called (Some k.board) call k.memory.rounds ≡ (λ (t : BoardTurn). t.memory.rounds) (after_call sheet innings k call l)
  rounds_on sheet k call l = grind arith

  abbrev hearing_of : BoardTurn → Hearing
  hearing_of t = record { board = Some t.board; rounds = t.memory.rounds }

  calls : (n : ℕ) (s : Sheet) (t : BoardTurn) (first : List Sight) (ms : List (own.Moment BoardTurn BoardCall)) → BoardRuns game innings s t ms
      → Goes next_heard MayHear (hearing_of t) (board_calls innings n s t first ms) (hearing_of (own.last_of t ms))
  calls n s t first [] r = ((tt, tt), refl)
  calls n s t first (m ∷ ms) r =
      let before = calls n s t first ms r.0 in
      let k : BoardTurn = own.last_of t ms in
      let l : BoardState = (λ (k : BoardTurn). k.board) m.after in
      let rounds = rounds_on s k m.call l ∙ ap (λ (t : BoardTurn). t.memory.rounds) (sym r.2.2) in (
        (before.0, rw before.1 (drops k m.call r.2.0)),
        rw before.1 (λ i. record { board = Some l; rounds = rounds i }),
      )

  lives : (n : ℕ) (s : Hearing) (k : BoardState) → s.board ≡ Some k → (ps : List BoardProcess) → IsBoardLife game innings ps
      → (t : Hearing) × (j : BoardState) × (t.board ≡ Some j) × Goes next_heard MayHear s (board_happens innings n ps) t
  lives n s k e [] h = (s, k, e, (tt, refl))
  lives n s k e (p ∷ ps) h =
      let before = lives n s k e ps h.0 in
      let fresh : Hearing = record { board = Some fresh_board; rounds = [] } in
      let begins : Goes next_heard MayHear s (BoardBegun n ∷ board_happens innings n ps) fresh =
      ((before.3.0, tt), rw before.3.1 (rw before.2 refl)) in
      let last : BoardTurn = own.last_of (first_turn p) p.calls in
      let made : List (Happening Disk) = board_calls innings n p.sheet (first_turn p) p.first p.calls in (
        hearing_of last,
        (λ (t : BoardTurn). t.board) last,
        refl,
        goes-append next_heard MayHear s fresh (hearing_of last) made (BoardBegun n ∷ board_happens innings n ps) begins
            (calls n p.sheet (first_turn p) p.first p.calls h.1.1),
      )

  life : (n : ℕ) (o : Option BoardState) (hs : List (Happening Disk))
      → (ps : List BoardProcess) × IsBoardLife game innings ps × (hs ≡ board_happens innings n ps) → (o ≡ None → hs ≡ [])
      → Local next_heard MayHear (record { board = o; rounds = [] }) hs
  life n None hs h none = rw (none refl) tt
  life n (Some k) hs h none = rw h.2 (lives n (record { board = Some k; rounds = [] }) k refl h.0 h.1).3.0

  module _ (w : Configuration Disk) where
    abbrev heard_at : ℕ → List (Happening Disk) → Hearing
    heard_at n hs = record { board = board_at (after w hs).boards n; rounds = rounds_at w n hs }

    abbrev AllHear : List (Happening Disk) → Type 0
    AllHear hs = (n : ℕ) → Local next_heard MayHear (heard_at n []) (filter (is_at_board n) hs)

    heard_then : (n : ℕ) (h : Happening Disk) (hs : List (Happening Disk))
        → heard_at n (h ∷ hs) ≡ cond (is_at_board n h) (next_heard (heard_at n hs) h) (heard_at n hs)
    heard_then n h hs = both (is_at_board n h) (board_then (after w hs) h n) (rounds_then h)
      where
        rounds_then : (h : Happening Disk) → rounds_at w n (h ∷ hs) ≡ cond (is_at_board n h) (next_rounds (heard_at n hs) h) (rounds_at w n hs)
        rounds_then h = grind arith

        both : (b : _) → board_at (after_one (after w hs) h).boards n ≡ cond b (next_board (board_at (after w hs).boards n) h) (board_at (after w hs).boards n)
            → rounds_at w n (h ∷ hs) ≡ cond b (next_rounds (heard_at n hs) h) (rounds_at w n hs)
            → heard_at n (h ∷ hs) ≡ cond b (next_heard (heard_at n hs) h) (heard_at n hs)
        both b e f = grind arith

    hears : (hs : List (Happening Disk)) (n : ℕ) → heard_at n hs ≡ nexts next_heard (heard_at n []) (filter (is_at_board n) hs)
    hears [] n = refl
    hears (h ∷ hs) n =
        nexts-one next_heard (is_at_board n h) (heard_at n []) (heard_at n hs) (heard_at n (h ∷ hs)) h (filter (is_at_board n) hs) (hears hs n) (heard_then n h hs)

module _ {Disk : Type 0} (seen : Disk → List ℕ) (images : Disk → Images) (faults : Disk → Faults) where
  pub woven_lives_part_none : WovenLivesPartNone seen images faults
  woven_lives_part_none seals contents game innings version count a b hs none begin w =
      none_parted hs flow.1 (λ n. life Disk game innings n (board_at w0.boards n) (filter (is_at_board n) hs) (w.boards n) (w.no_others n))
    where
      w0 : Configuration Disk
      w0 = start version count a b

      flow : IsFlow seen images contents game innings version count w0 hs
      flow = woven_lives_flow seen images faults seals contents game innings version count a b hs none begin w

      dropped : (gs : List (Happening Disk)) → Flow (λ d version. file_view (contents version) seen images d game) game innings w0 gs → (h : Happening Disk)
          → Happens (λ d version. file_view (contents version) seen images d game) game innings (after w0 gs) h
          → ((n : ℕ) → is_at_board n h ≡ true → MayHear Disk game innings (heard_at Disk game innings w0 n gs) h) → IsParted h → ⊥
      dropped gs f (BoardCalled n sheet (boards.Parted bytes back) out l text shown) m may is =
          let d = may n (eq-eqb n n refl) in
          let found = m.2 (Message.Vote d.0) d.1 in
          let headline = flows_have_headline seen images contents game innings version count w0 gs (flow.0, f) in
          let whole = headline.no_vote_parts n found.0 d.0 (given_vote (after w0 gs).sent found.0 d.0 found.1) in
          absurd (cc (whole, d.2))
      dropped gs f h m may is = absurd is

      none_parted : (gs : List (Happening Disk)) → Flow (λ d version. file_view (contents version) seen images d game) game innings w0 gs → AllHear Disk game innings w0 gs → NoneIsParted gs
      none_parted [] f h = tt
      none_parted (c ∷ cs) f h =
          let one = λ (n : ℕ).
          local-one next_heard (MayHear Disk game innings) (is_at_board n c) (heard_at Disk game innings w0 n []) c (filter (is_at_board n) cs) (h n) in (
            none_parted cs f.0 (λ n. (one n).0),
            dropped cs f.0 c f.1 (λ n is. rw (hears Disk game innings w0 cs n) ((one n).1 is)),
          )
