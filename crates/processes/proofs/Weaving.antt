-- Woven lives are a flow.
use Rattle.std.proofs.Common.{arith, ◌≡◌, ◌<◌, length, ℕ, zero, suc, true, nat_eq, List, [], ◌∷◌, cond, refl, subst}
use Rattle.std.specs.Prelude.{All, option_map, slice_get, slice_set}
use Rattle.std.specs.List.{filter}
use Rattle.std.proofs.lemmas.Bool.{eq-eqb}
use Rattle.std.proofs.lemmas.Bool.Decides.{nat_tests}
use Rattle.std.proofs.lemmas.List.Elements.{All-append, All-nil}
use Rattle.std.proofs.Math.Dec.{eqb-suc-suc}
use Rattle.agree_core.specs.declared.messages.{DeskId.DeskId, Message.Message}
use Rattle.agree_core.specs.Boards.{BoardState, fresh_board}
use Rattle.agree_core.specs.FileView.{FileView}
use Rattle.wire.specs.Layout.{IsMessage, Says}
use Rattle.headline.specs.declared.version.FileVersion.{FileVersion}
use Rattle.headline.specs.Configurations.{Process, Configuration, board_at, node, process_disk, with_board}
use Rattle.headline.proofs.Given.{may_be_given}
use Rattle.live.specs.Boards as boards
use Rattle.live.specs.Boards.{BoardCall}
use Rattle.live.specs.Desks as desks
use Rattle.live.specs.Desks.{DeskCall}
use Rattle.seal.proofs.Unforged.{opened_was_sent}
use Rattle.processes.specs.Exchanges.{handed_out}
use Rattle.processes.specs.Happenings.{BoardBegun, BoardCalled, BoardCame, BoardGreeted, DeskBegun, DeskCalled, DeskCame, DeskEnded, DeskGreeted, FileMigrated, Flow, Happening, Happens, PowerLost, WasSent, after, after_one}
use Rattle.seal.specs.Rings.{Seals, ring_of_board}
use Rattle.seal.specs.declared.ring.Ring.{Ring}
use Rattle.processes.specs.Sealing.{BoardAuthentic, DeskAuthentic, IsAuthentic, ring_of_desk}
use Rattle.processes.specs.Weaving.{Came, NothingIsForged, is_at_board, is_at_desk, same_desk}
use Rattle.processes.proofs.BoardLives.{BoardLocal, MayBoard, next_board}
use Rattle.processes.proofs.DeskLives.{DeskLocal, MayDesk, next_desk}
use Rattle.processes.proofs.Exchanged.{said}
use Rattle.processes.proofs.Local.{local-one, nexts, nexts-one}

set_at : (xs : List BoardState) (n m : ℕ) (l : BoardState)
    → slice_get (slice_set xs n l) m ≡ cond (nat_eq m n) (option_map (λ (k : BoardState). l) (slice_get xs m)) (slice_get xs m)
set_at (x ∷ xs) zero zero l = refl
set_at (x ∷ xs) (suc n) (suc m) l = rw (eqb-suc-suc m n) (set_at xs n m l)
set_at xs n m l = grind (arith, nat_tests)

-- a board's state after a change at the same number or at another
board_set : (xs : List BoardState) (n m : ℕ) (l : BoardState)
    → board_at (with_board xs n l) m ≡ cond (nat_eq m n) (option_map (λ (k : BoardState). l) (board_at xs m)) (board_at xs m)
board_set xs (suc n) (suc m) l = rw (eqb-suc-suc m n) (set_at xs n m l)
board_set xs n m l = grind (arith, nat_tests)

at_own : (d : DeskId) → same_desk d d ≡ true
at_own d = grind arith

-- a message opened at a station was sent, since stations send only messages
was_sent : (ring : Ring) (game : ℕ) (sent : List Message) (message : List ℕ) → All IsMessage sent → IsAuthentic ring game sent message → WasSent game sent message
was_sent ring game sent message fine h m says = may_be_given sent m (λ v e.
    let came = h v (subst (Says game message) e says) in
    let by = came.2.1 in
    opened_was_sent by.0 game sent came.0 message fine by.3 came.1 by.2 m says)

desk_came : (ring : Ring) (game : ℕ) (sent : List Message) (call : DeskCall) → All IsMessage sent → DeskAuthentic ring game sent call → DeskCame game sent call
desk_came ring game sent (desks.Given message what) fine h = was_sent ring game sent message fine h
desk_came ring game sent _ fine h = tt

board_came : (ring : Ring) (game : ℕ) (sent : List Message) (call : BoardCall) → All IsMessage sent → BoardAuthentic ring game sent call → BoardCame game sent call
board_came ring game sent (boards.Given message answer) fine h = was_sent ring game sent message fine h
board_came ring game sent (boards.Parted message back) fine h = was_sent ring game sent message fine h
board_came ring game sent _ fine h = tt

-- a happening leaves a desk, or a board, as it is unless it happens there
desk_then : {Disk : Type 0} (v : Configuration Disk) (h : Happening Disk) (d : DeskId) → node (after_one v h) d ≡ cond (is_at_desk d h) (next_desk (node v d) h) (node v d)
desk_then v h d = grind arith

pub board_then : {Disk : Type 0} (v : Configuration Disk) (h : Happening Disk) (n : ℕ)
    → board_at (after_one v h).boards n ≡ cond (is_at_board n h) (next_board (board_at v.boards n) h) (board_at v.boards n)
board_then v (BoardCalled m sheet call out l text seen) n = board_set v.boards m n l
board_then v (BoardBegun m) n = board_set v.boards m n fresh_board
board_then v h n = grind arith

module _ {Disk : Type 0} (view : DeskId → FileVersion → FileView Disk) (seen : Disk → List ℕ) (seals : Seals) (game innings : ℕ) where
  abbrev pub HasBytes : Configuration Disk → Type 0
  HasBytes v = (d : DeskId) → 0 < length (seen (process_disk (node v d).process))

  -- what may happen at its station may happen in the match, and hands out messages
  module _ (v : Configuration Disk) (sent : All IsMessage v.sent) (bytes : HasBytes v) where
    none : All IsMessage []
    none = All-nil IsMessage

    happens : (h : Happening Disk) → Came seals game v h → ((d : DeskId) → is_at_desk d h ≡ true → MayDesk (view d) seen d game innings (node v d) h)
        → ((n : ℕ) → is_at_board n h ≡ true → MayBoard Disk game innings (board_at v.boards n) h) → Happens view game innings v h × All IsMessage (handed_out h)
    happens (DeskGreeted d sheet text) c t b = (t d (at_own d), none)
    happens (DeskCalled d sheet call out l text) c t b =
        let m = t d (at_own d) in
        ((m.0, m.1, desk_came (ring_of_desk seals d) game v.sent call sent c, m.2, m.3), m.4)
    happens (DeskEnded d disk) c t b = (t d (at_own d), none)
    happens (PowerLost d disk) c t b = (t d (at_own d), none)
    happens (DeskBegun d opening) c t b =
        let m = t d (at_own d) in
        ((m.0, m.1, m.2, m.3.1 (subst (λ (p : Process Disk). 0 < length (seen (process_disk p))) m.2 (bytes d))), none)
    happens (FileMigrated d votes new) c t b = (t d (at_own d), none)
    happens (BoardGreeted n sheet text shown) c t b = (b n (eq-eqb n n refl), none)
    happens (BoardCalled n sheet call out l text shown) c t b =
        let m = b n (eq-eqb n n refl) in
        ((m.0, m.1, board_came (ring_of_board seals n) game v.sent call sent c, m.2, m.3, m.4), m.5)
    happens (BoardBegun n) c t b = (b n (eq-eqb n n refl), none)

  module _ (w : Configuration Disk) where
    -- what happened at each station may happen there
    abbrev pub AllMay : List (Happening Disk) → Type 0
    AllMay hs =
        ((d : DeskId) → DeskLocal (view d) seen d game innings (node w d) (filter (is_at_desk d) hs))
        × ((n : ℕ) → BoardLocal Disk game innings (board_at w.boards n) (filter (is_at_board n) hs))

    -- each station's state is what happened there makes of it, and only messages were sent
    pub record Stands (v : Configuration Disk) (hs : List (Happening Disk)) : Type 0 where
      pub desks : (d : DeskId) → node v d ≡ nexts next_desk (node w d) (filter (is_at_desk d) hs)
      pub boards : (n : ℕ) → board_at v.boards n ≡ nexts next_board (board_at w.boards n) (filter (is_at_board n) hs)
      pub sent : All IsMessage v.sent

    pub weaves : (hs : List (Happening Disk)) → w.sent ≡ [] → NothingIsForged seals game w hs → AllMay hs
        → ((gs : List (Happening Disk)) → Flow view game innings w gs → HasBytes (after w gs)) → Flow view game innings w hs × Stands (after w hs) hs
    weaves [] e c may f = (tt, record { desks = λ d. refl; boards = λ n. refl; sent = rw e (All-nil IsMessage) })
    weaves (h ∷ hs) e c may f =
        let of_desk = λ (d : DeskId). local-one next_desk (MayDesk (view d) seen d game innings) (is_at_desk d h) (node w d) h (filter (is_at_desk d) hs) (may.0 d) in
        let of_board = λ (n : ℕ). local-one next_board (MayBoard Disk game innings) (is_at_board n h) (board_at w.boards n) h (filter (is_at_board n) hs) (may.1 n) in
        let before = weaves hs e c.0 (λ d. (of_desk d).0, λ n. (of_board n).0) f in
        let v = after w hs in
        let s = before.1 in
        let now = happens v s.sent (f hs before.0) h c.1 (λ d is. rw (s.desks d) ((of_desk d).1 is)) (λ n is. rw (s.boards n) ((of_board n).1 is)) in (
          (before.0, now.0),
          record {
            desks = λ d. nexts-one next_desk (is_at_desk d h) (node w d) (node v d) (node (after_one v h) d) h (filter (is_at_desk d) hs) (s.desks d) (desk_then v h d);
            boards = λ n. nexts-one next_board (is_at_board n h) (board_at w.boards n) (board_at v.boards n) (board_at (after_one v h).boards n) h (filter (is_at_board n) hs)
                (s.boards n) (board_then v h n);
            sent = rw (said v h) (All-append IsMessage v.sent (handed_out h) s.sent now.1);
          },
        )
