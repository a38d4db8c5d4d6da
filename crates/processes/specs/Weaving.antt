-- The lives of all stations, in one order.
use Rattle.std.specs.Prelude.{◌≡◌, ℕ, Bool, true, false, nat_eq, List, [], ◌∷◌, None}
use Rattle.std.specs.List.{filter}
use Rattle.entry_log.specs.Disk.{Faults, Images}
use Rattle.entry_log.specs.Slots.{FileContents}
use Rattle.vote_store.specs.View.{file_view}
use Rattle.agree_core.specs.declared.messages.DeskId.{DeskId}
use Rattle.agree_core.specs.declared.messages.DeskId.TheVariants.{A, B}
use Rattle.agree_core.specs.Desks.{DeskState}
use Rattle.headline.specs.declared.version.FileVersion.{FileVersion}
use Rattle.headline.specs.Configurations.{Running, Configuration, board_at, fresh_boards, node}
use Rattle.processes.specs.Happenings.{BoardBegun, BoardCalled, BoardGreeted, DeskBegun, DeskCalled, DeskEnded, DeskGreeted, FileMigrated, Happening, PowerLost, after}
use Rattle.processes.specs.Lives.{BeginsFirst, BoardProcess, IsBoardLife, IsLife, Stage, board_happens, life_happens}
use Rattle.processes.specs.Files.{NoneShowNone}
use Rattle.processes.specs.Headline.{ProcessHeadline}
use Rattle.processes.specs.Laws.{IsFlow}
use Rattle.processes.specs.Parting.{NoneIsParted, NoneTells}
use Rattle.processes.specs.Sealing.{BoardAuthentic, DeskAuthentic, ring_of_desk}
use Rattle.seal.specs.Rings.{Seals, ring_of_board}

-- whether it happens at this desk, or at this board
abbrev pub same_desk : DeskId → DeskId → Bool
same_desk A A = true
same_desk A B = false
same_desk B A = false
same_desk B B = true

abbrev pub is_at_desk : {Disk : Type 0} → DeskId → Happening Disk → Bool
is_at_desk d (DeskGreeted c s text) = same_desk d c
is_at_desk d (DeskCalled c s call out l text) = same_desk d c
is_at_desk d (DeskEnded c disk) = same_desk d c
is_at_desk d (PowerLost c disk) = same_desk d c
is_at_desk d (DeskBegun c opening) = same_desk d c
is_at_desk d (FileMigrated c votes new) = same_desk d c
is_at_desk d (BoardGreeted n s text seen) = false
is_at_desk d (BoardCalled n s call out l text seen) = false
is_at_desk d (BoardBegun n) = false

abbrev pub is_at_board : {Disk : Type 0} → ℕ → Happening Disk → Bool
is_at_board n (BoardGreeted m s text seen) = nat_eq n m
is_at_board n (BoardCalled m s call out l text seen) = nat_eq n m
is_at_board n (BoardBegun m) = nat_eq n m
is_at_board n what = false

-- if sealed bytes came to a station and opened, a station had sealed them with that pair's seal before
abbrev pub Came : {Disk : Type 0} → Seals → ℕ → Configuration Disk → Happening Disk → Type 0
Came seals game w (DeskCalled d s call out l text) = DeskAuthentic (ring_of_desk seals d) game w.sent call
Came seals game w (BoardCalled n s call out l text seen) = BoardAuthentic (ring_of_board seals n) game w.sent call
Came seals game w what = Unit {0}

abbrev pub NothingIsForged : {Disk : Type 0} → Seals → ℕ → Configuration Disk → List (Happening Disk) → Type 0
NothingIsForged seals game w [] = Unit {0}
NothingIsForged seals game w (h ∷ hs) = NothingIsForged seals game w hs × Came seals game (after w hs) h

-- two desks at the beginning of their first processes, and this many boards
abbrev pub start : {Disk : Type 0} → FileVersion → ℕ → DeskState Disk → DeskState Disk → Configuration Disk
start version boards a b =
    record {
      a = record { version = version; process = Running a; due = None };
      b = record { version = version; process = Running b; due = None };
      boards = fresh_boards boards;
      sent = [];
    }

module _ {Disk : Type 0} (seen : Disk → List ℕ) (images : Disk → Images) (faults : Disk → Faults) where
  -- All that happened to the processes of a match with these seals, the newest first: whatever opened at a station by a pair's
  -- seal, a station had sealed with it before; what happened at each desk and at each board is its life; and nothing happened
  -- at other boards.
  pub record IsWoven (seals : Seals) (contents : FileVersion → FileContents) (game innings : ℕ) (w : Configuration Disk) (hs : List (Happening Disk)) : Type 0 where
    pub order : NothingIsForged seals game w hs
    pub desks : (d : DeskId) → (life : List (Stage Disk))
        × IsLife (λ version. file_view (contents version) seen images d game) seen faults d game innings (node w d) life
        × (filter (is_at_desk d) hs ≡ life_happens innings d life)
    pub boards : (n : ℕ) → (life : List BoardProcess)
        × IsBoardLife game innings life × (filter (is_at_board n) hs ≡ board_happens innings n life)
    pub no_others : (n : ℕ) → board_at w.boards n ≡ None → filter (is_at_board n) hs ≡ []

  -- the desks at the beginnings of their first processes
  abbrev pub BothBegin : FileContents → ℕ → ℕ → DeskState Disk → DeskState Disk → Type 0
  BothBegin contents game innings a b =
      BeginsFirst (file_view contents seen images A game) seen innings A a
      × BeginsFirst (file_view contents seen images B game) seen innings B b

  -- The lives of all stations of a match with these seals are a flow, put into one order in which nothing opens by a seal that
  -- no station had sealed with it.
  abbrev pub WovenLivesFlow : Type 0
  WovenLivesFlow =
      (seals : Seals) (contents : FileVersion → FileContents) (game innings : ℕ) (version : FileVersion) (boards : ℕ)
      (a b : DeskState Disk) (hs : List (Happening Disk)) → NoneShowNone contents game
      → BothBegin (contents version) game innings a b
      → IsWoven seals contents game innings (start version boards a b) hs
      → IsFlow seen images contents game innings version boards (start version boards a b) hs

  -- so the headline holds of them
  abbrev pub WovenLivesHaveHeadline : Type 0
  WovenLivesHaveHeadline =
      (seals : Seals) (contents : FileVersion → FileContents) (game innings : ℕ) (version : FileVersion) (boards : ℕ)
      (a b : DeskState Disk) (hs : List (Happening Disk)) → NoneShowNone contents game
      → BothBegin (contents version) game innings a b
      → IsWoven seals contents game innings (start version boards a b) hs
      → ProcessHeadline game innings (start version boards a b) hs

  -- no board drops a vote as one that shows that a desk's file lacks lines
  abbrev pub WovenLivesPartNone : Type 0
  WovenLivesPartNone =
      (seals : Seals) (contents : FileVersion → FileContents) (game innings : ℕ) (version : FileVersion) (boards : ℕ)
      (a b : DeskState Disk) (hs : List (Happening Disk)) → NoneShowNone contents game
      → BothBegin (contents version) game innings a b
      → IsWoven seals contents game innings (start version boards a b) hs → NoneIsParted hs

  -- no board tells, by what it hands over to be shown, that a desk's file lacks lines
  abbrev pub WovenLivesTellNone : Type 0
  WovenLivesTellNone =
      (seals : Seals) (contents : FileVersion → FileContents) (game innings : ℕ) (version : FileVersion) (boards : ℕ)
      (a b : DeskState Disk) (hs : List (Happening Disk)) → NoneShowNone contents game
      → BothBegin (contents version) game innings a b
      → IsWoven seals contents game innings (start version boards a b) hs → NoneTells hs
