-- What stays of a station where a happening brings no vote.
use Rattle.std.proofs.Common.{arith, Err, ◌≡◌, ◌≢◌, ◌⊎◌, ℕ, Some, None, List, [], refl, sym, ap, ◌∙◌, inl, inr, option_map, option_and_then}
use Rattle.notation.specs.declared.entry.Entry.{Entry}
use Rattle.corrections.specs.Refusal.{book_refusal}
use Rattle.agree_core.specs.declared.messages.{DeskId.DeskId, Message.Message}
use Rattle.agree_core.specs.declared.messages.DeskId.TheVariants.{A, B}
use Rattle.agree_core.specs.Boards.{BoardAnswer, BoardReceives, BoardState}
use Rattle.agree_core.specs.Desks.{DeskState, Pens, ReceiveAnswer, Receives}
use Rattle.agree_core.specs.FileView.{FileView}
use Rattle.agree_core.specs.Readers.{noted_of}
use Rattle.agree_core.specs.Seats.{SeatState}
use Rattle.desk.specs.Answers.{pen_answer}
use Rattle.desk.specs.declared.refusal.Refusal.{Refusal as PenCause}
use Rattle.headline.specs.declared.event.Station.{Station}
use Rattle.headline.specs.Configurations.{Process, Running, Node, Configuration, board_at, node, with_board, with_node}
use Rattle.headline.specs.KeptVotes.{kept_at, kept_by_process, kept_by_seat}
use Rattle.headline.specs.Noted.{position_at, process_position}
use Rattle.processes.specs.Happenings.{with_process}
use Rattle.processes.proofs.BoardSteps.{same_board, with_it}

module _ {Disk : Type 0} where
  -- the station stays at its position with the votes that it keeps
  abbrev pub SameAt : Configuration Disk → Configuration Disk → Station → Type 0
  SameAt v new t = (position_at new t ≡ position_at v t) × ((c : DeskId) → kept_at new t c ≡ kept_at v t c)

  -- a station stays as it is where a desk goes on with the same seat
  pub same_seat : (v : Configuration Disk) (d : DeskId) (k l : DeskState Disk) (out : List Message) → (node v d).process ≡ Running k → l.seat ≡ k.seat
      → (t : Station) → SameAt v (with_process v d (Running l) out) t
  same_seat v A k l out at e (Station.Desk A) = (
    ap (λ (x : SeatState). Some x.position) e ∙ sym (ap process_position at),
    λ c. ap (λ (x : SeatState). kept_by_seat x A c) e ∙ sym (ap (λ (x : Process Disk). kept_by_process x A c) at),
  )
  same_seat v B k l out at e (Station.Desk B) = (
    ap (λ (x : SeatState). Some x.position) e ∙ sym (ap process_position at),
    λ c. ap (λ (x : SeatState). kept_by_seat x B c) e ∙ sym (ap (λ (x : Process Disk). kept_by_process x B c) at),
  )
  same_seat v d k l out at e t = (refl, λ c. refl)

  -- a desk is down, and any other station stays as it is
  pub goes_down : (v : Configuration Disk) (d : DeskId) (x : Node Disk) → process_position x.process ≡ None
      → (t : Station) → (position_at (with_node v d x []) t ≡ None) ⊎ ((t ≢ Station.Desk d) × SameAt v (with_node v d x []) t)
  goes_down v A x down (Station.Desk A) = inl down
  goes_down v B x down (Station.Desk B) = inl down
  goes_down v d x down t = inr (λ q. cc, (refl, λ c. refl))

  -- a station stays as it is where a board does
  pub same_boards : (v : Configuration Disk) (n : ℕ) (k l : BoardState) (out : List Message) → board_at v.boards n ≡ Some k → l ≡ k
      → (t : Station) → SameAt v (with_it v n l out) t
  same_boards v n k l out at e (Station.Board i) =
      let same = ap (λ (bs : List BoardState). board_at bs i) (ap (with_board v.boards n) e ∙ same_board v.boards n k at) in
      (ap (option_map (λ (x : BoardState). x.reader.position)) same, λ c. ap (option_and_then (λ (x : BoardState). noted_of x.reader c)) same)
  same_boards v n k l out at e t = (refl, λ c. refl)

-- a pen that is refused, an ask, and a message that meets a failing disk leave the seat
pub pen_leaves : {Disk : Type 0} (view : FileView Disk) (innings : ℕ) (k : DeskState Disk) (e : Entry) (why : PenCause) (l : DeskState Disk) (out : List Message)
    → Pens view (book_refusal innings) k e (pen_answer (Err why)) l out → l.seat ≡ k.seat
pen_leaves view innings k e PenCause.Device l out h = ap (λ (x : DeskState _). x.seat) h.2
pen_leaves view innings k e why l out h = ap (λ (x : DeskState _). x.seat) h.1.1

pub ask_leaves : {Disk : Type 0} (view : FileView Disk) (k : DeskState Disk) (m : Message) (l : DeskState Disk) (out : List Message)
    → Receives view k m ReceiveAnswer.Asked l out ⊎ Receives view k m ReceiveAnswer.DeviceFailed l out → l.seat ≡ k.seat
ask_leaves view k (Message.Ask q) l out (inl h) = ap (λ (x : DeskState _). x.seat) h.1.1
ask_leaves view k (Message.Ask q) l out (inr h) = ap (λ (x : DeskState _). x.seat) h.2
ask_leaves view k (Message.Vote v) l out (inl h) = absurd h
ask_leaves view k (Message.Vote v) l out (inr h) = absurd h

-- an ask, and votes whose entry is refused, leave the board
pub board_leaves : (innings : ℕ) (k : BoardState) (m : Message) (l : BoardState) (place : ℕ)
    → BoardReceives (book_refusal innings) k m BoardAnswer.Asked l ⊎ BoardReceives (book_refusal innings) k m (BoardAnswer.BadVotes place) l → l ≡ k
board_leaves innings k m l place h = grind arith
