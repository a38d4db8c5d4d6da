-- A moment of a board's process is an event.
use Rattle.std.proofs.Common.{arith, ◌≡◌, ℕ, suc, Some, List, [], ◌∷◌, ◌++◌, length, refl, ap, append-nil, Ok, Err}
use Rattle.std.specs.Prelude.{slice_get, slice_set}
use Rattle.corrections.specs.Refusal.{book_refusal}
use Rattle.corrections.specs.declared.refusal.Refusal.{Refusal}
use Rattle.agree_core.specs.declared.messages.Message.{Message}
use Rattle.agree_core.specs.Boards.{BoardAnswer, BoardReceives, BoardState}
use Rattle.wire.specs.declared.what.What.TheVariants.{Bad, Heard, Asked}
use Rattle.wire.specs.Layout.{Says}
use Rattle.board.specs.declared.refusal.BoardRefusal.TheVariants.{BadVotes}
use Rattle.headline.specs.declared.event.{Event.Event, Station.Station}
use Rattle.headline.specs.Setting.{Setting}
use Rattle.headline.specs.Configurations.{Configuration, board_at, with_board}
use Rattle.headline.specs.Answers as answers
use Rattle.headline.specs.Answers.{board_told}
use Rattle.live.specs.Boards as boards
use Rattle.live.specs.Boards.{BoardCall, BoardStep}
use Rattle.headline.specs.Runs.{Moment}
use Rattle.processes.specs.Happenings.{BoardCame, Happening}
use Rattle.processes.specs.Progress.{IsQuiet, Plays, PlaysBoard}
use Rattle.processes.proofs.Given.{as_sent}
use Rattle.processes.proofs.Going.{Leads, none, one}

same_item : (xs : List BoardState) (n : ℕ) (x : BoardState) → slice_get xs n ≡ Some x → slice_set xs n x ≡ xs
same_item (y ∷ xs) (suc n) x e = ap (λ (zs : List BoardState). y ∷ zs) (same_item xs n x e)
same_item xs n x e = grind arith

pub same_board : (xs : List BoardState) (n : ℕ) (x : BoardState) → board_at xs n ≡ Some x → with_board xs n x ≡ xs
same_board xs n x h0 = grind (arith, same_item)

-- the configuration with this board at that number, and these messages added to those sent
abbrev pub with_it : {Disk : Type 0} → Configuration Disk → ℕ → BoardState → List Message → Configuration Disk
with_it v n l out = record v { boards = with_board v.boards n l; sent = v.sent ++ out }

module _
    {Disk : Type 0} (s : Setting Disk Refusal) (game innings : ℕ) (rules : s.rules ≡ book_refusal innings) (v : Configuration Disk) (what : Happening Disk)
    (n : ℕ) (k l : BoardState) (out : List Message) (at : board_at v.boards n ≡ Some k)
  where
    abbrev PlayedBy : BoardCall → Type 0
    PlayedBy call = IsQuiet what → (ms : List (Moment Disk Refusal)) → PlaysBoard game v n call ms → Plays game v what ms

    received : (bytes : List ℕ) (m : Message) (told : BoardAnswer) → PlayedBy (boards.Given bytes (Ok Asked)) → BoardCame game v.sent (boards.Given bytes (Ok Asked))
        → Says game bytes m → BoardReceives (book_refusal innings) k m told l → out ≡ [] → Leads s game what v v (with_it v n l out)
    received bytes m told plays came says got empty =
        let found = as_sent v.sent m (came m says) in
        let event = Event.Give found.0 (Station.Board n) in
        one s game what v (with_it v n l out) event (board_told told) tt
        (λ q. (tt, plays q (record { event = event; answer = board_told told; after = with_it v n l out } ∷ []) (found.0, m, refl, says, found.1)))
        (k, l, out, at, (m, told, found.1.0, rw rules got, refl, empty), refl)

    unmoved : l ≡ k → out ≡ [] → (IsQuiet what → Plays game v what []) → Leads s game what v v (with_it v n l out)
    unmoved same empty plays =
        none s game what v (with_it v n l out)
        (grind (arith, same_board, append-nil)) plays

    pub board_moment : (call : BoardCall) → PlayedBy call → BoardCame game v.sent call → BoardStep game innings k call out l → Leads s game what v v (with_it v n l out)
    board_moment (boards.Given bytes (Ok (Bad fault))) plays came h = unmoved h.0.1 h.1 (λ q. plays q [] refl)
    board_moment (boards.Given bytes (Ok (Heard x))) plays came h = let t = h.0 in received bytes t.0 (BoardAnswer.Told x) plays came t.1 t.2 h.1
    board_moment (boards.Given bytes (Ok Asked)) plays came h = let t = h.0 in received bytes t.0 BoardAnswer.Asked plays came t.1 t.2 h.1
    board_moment (boards.Given bytes (Ok _)) plays came h = absurd h.0
    board_moment (boards.Given bytes (Err (BadVotes p))) plays came h = let t = h.0 in received bytes t.0 (BoardAnswer.BadVotes p) plays came t.1 t.2 h.1
    board_moment boards.Ticked plays came h =
        let event = Event.Tick (Station.Board n) in
        let answer = answers.Ticked (length out) in
        one s game what v (with_it v n l out) event answer tt (λ q. (tt, plays q (record { event = event; answer = answer; after = with_it v n l out } ∷ []) refl))
        (k, l, out, at, (h.0, refl, h.1), refl)
    board_moment _ plays came h = unmoved h.0 h.1 (λ q. plays q [] refl)
