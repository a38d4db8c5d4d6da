-- What the lives of a match took from the network is authentic.
use Rattle.std.proofs.Common.{arith, ◌≡◌, inl, ℕ, true, nat_eq, List, [], ◌∷◌, refl, subst}
use Rattle.std.specs.List.{filter}
use Rattle.std.proofs.lemmas.Bool.{eq-eqb}
use Rattle.agree_core.specs.declared.messages.{DeskId.DeskId, Message.Message}
use Rattle.links.specs.Passed.{Came, Passed}
use Rattle.links.specs.Windows.{Has}
use Rattle.live.specs.Boards as boards
use Rattle.live.specs.Boards.{BoardCall}
use Rattle.live.specs.Desks as desks
use Rattle.live.specs.Desks.{DeskCall}
use Rattle.seal.specs.Rings.{ring_of_board}
use Rattle.headline.specs.Configurations.{Configuration}
use Rattle.desk_command.specs.declared.desk_disk.DeskDisk.{DeskDisk}
use Rattle.board_command.specs.Lives.{traces_in}
use Rattle.processes.specs.Happenings.{BoardCalled, DeskCalled, Happening, after}
use Rattle.processes.specs.Sealing.{BoardAuthentic, DeskAuthentic, IsAuthentic, ring_of_desk}
use Rattle.processes.specs.Weaving as weaving
use Rattle.processes.specs.Weaving.{is_at_board, is_at_desk, same_desk}
use Rattle.sheet_stations.specs.Lives.{LifeOfBoard, LifeOfDesk}
use Rattle.sheet_stations.specs.Matches.{IsWoven, Match, start_of}
use Rattle.sheet_stations.specs.Network.{IsFine, IsFineAtBoard, IsFineAtDesk, IsLifeOf, NoneForgesAtBoard, NothingIsForged}
use Rattle.sheet_stations.proofs.Heard.{WasGiven, desk_took, one_more, one_took, this_one}
use Rattle.sheet_stations.proofs.Network.{authentic, board_first, desk_first, no_seals}

at_own : (d : DeskId) → same_desk d d ≡ true
at_own d = grind arith

module _ (m : Match) where
  abbrev DeskTook : DeskId → Passed → Type 0
  DeskTook d x = (l : LifeOfDesk d) × IsLifeOf (m.desks d) l × Has l.process.traces.passed x

  abbrev BoardTook : ℕ → Passed → Type 0
  BoardTook n x = (b : LifeOfBoard) × Has (m.boards n) b × Has (traces_in b.life).passed x

  module _ (sent : List Message) where
    desk_call : (d : DeskId) (call : DeskCall) → ((x : Passed) → Has (desks.given call) x → DeskTook d x) → IsFineAtDesk m.game sent (m.desks d) call
        → DeskAuthentic (ring_of_desk no_seals d) m.game sent call
    desk_call d (desks.Given message what) took fine =
        let t = took (Came message) (inl refl) in
        authentic m.game sent message (ring_of_desk no_seals d) (desk_first d message) t.0.process.kept.carried t.2 (fine t.0 t.1)
    desk_call d _ took fine = tt

    board_message : (n : ℕ) (message : List ℕ) → BoardTook n (Came message) → NoneForgesAtBoard m.game sent message (m.boards n)
        → IsAuthentic (ring_of_board no_seals n) m.game sent message
    board_message n message t fine =
        authentic m.game sent message (ring_of_board no_seals n) (board_first n message) t.0.kept.carried t.2 (fine t.0 t.1)

    board_call : (n : ℕ) (call : BoardCall) → ((x : Passed) → Has (boards.given call) x → BoardTook n x) → IsFineAtBoard m.game sent (m.boards n) call
        → BoardAuthentic (ring_of_board no_seals n) m.game sent call
    board_call n (boards.Given message answer) took fine = board_message n message (took (Came message) (inl refl)) fine
    board_call n (boards.Parted message back) took fine = board_message n message (took (Came message) (inl refl)) fine
    board_call n _ took fine = tt

  module _ (w : Configuration DeskDisk) where
    this : (h : Happening DeskDisk) (hs : List (Happening DeskDisk)) → ((d : DeskId) (x : Passed) → WasGiven (filter (is_at_desk d) (h ∷ hs)) x → DeskTook d x)
        → ((n : ℕ) (x : Passed) → WasGiven (filter (is_at_board n) (h ∷ hs)) x → BoardTook n x)
        → IsFine m.game m.desks m.boards (after w hs) h → weaving.Came no_seals m.game (after w hs) h
    this (DeskCalled d s call out l text) hs of_desk of_board fine =
        desk_call (after w hs).sent d call (λ x has. of_desk d x (this_one (same_desk d d) (DeskCalled d s call out l text) (filter (is_at_desk d) hs) x (at_own d) has)) fine
    this (BoardCalled n s call out l text seen) hs of_desk of_board fine =
        board_call (after w hs).sent n call
        (λ x has. of_board n x (this_one (nat_eq n n) (BoardCalled n s call out l text seen) (filter (is_at_board n) hs) x (eq-eqb n n refl) has)) fine
    this _ hs of_desk of_board fine = tt

    -- what the stations' lives took is authentic
    order : (hs : List (Happening DeskDisk)) → ((d : DeskId) (x : Passed) → WasGiven (filter (is_at_desk d) hs) x → DeskTook d x)
        → ((n : ℕ) (x : Passed) → WasGiven (filter (is_at_board n) hs) x → BoardTook n x)
        → NothingIsForged m.game m.desks m.boards w hs → weaving.NothingIsForged no_seals m.game w hs
    order [] of_desk of_board none = tt
    order (h ∷ hs) of_desk of_board none = (
      order hs (λ d x given. of_desk d x (one_more (is_at_desk d h) h (filter (is_at_desk d) hs) x given))
          (λ n x given. of_board n x (one_more (is_at_board n h) h (filter (is_at_board n) hs) x given)) none.0,
      this h hs of_desk of_board none.1,
    )

pub lives_took : (m : Match) (hs : List (Happening DeskDisk)) → IsWoven m hs → weaving.NothingIsForged no_seals m.game (start_of m) hs
lives_took m hs w =
    order m (start_of m) hs (λ d x h. desk_took m.innings (m.desks d) x (subst (λ (gs : List (Happening DeskDisk)). WasGiven gs x) (w.desks d) h))
    (λ n x h. one_took m.innings n (m.boards n) x (subst (λ (gs : List (Happening DeskDisk)). WasGiven gs x) (w.boards n) h)) w.network
