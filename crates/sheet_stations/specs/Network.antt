-- What the network may do to the lives of a match: anything but make up a vote that opens at the socket of one of them.
use Rattle.std.specs.Prelude.{◌≡◌, ◌⊎◌, ℕ, List, [], ◌∷◌}
use Rattle.agree_core.specs.declared.messages.{DeskId.DeskId, Message.Message, Vote.Vote}
use Rattle.wire.specs.Layout.{Says}
use Rattle.links.specs.Passed.{Came, Passed}
use Rattle.links.specs.Windows.{Has}
use Rattle.live.specs.Boards as boards
use Rattle.live.specs.Boards.{BoardCall}
use Rattle.live.specs.Desks as desks
use Rattle.live.specs.Desks.{DeskCall}
use Rattle.seal.specs.Rings.{seals_by}
use Rattle.seal.specs.Sealed.{IsSealed}
use Rattle.seal.specs.Unforged.{IsUnforged}
use Rattle.seal.specs.declared.ring.Ring.{Ring}
use Rattle.headline.specs.Configurations.{Configuration}
use Rattle.desk_command.specs.declared.desk_disk.DeskDisk.{DeskDisk}
use Rattle.board_command.specs.Lives.{traces_in}
use Rattle.processes.specs.Happenings.{BoardCalled, DeskCalled, Happening, after}
use Rattle.sheet_stations.specs.Lives.{LifeOfBoard, LifeOfDesk, Lived, LivesOfDesk}

-- the life is one of these lives of its desk
abbrev pub IsLifeOf : {desk : DeskId} → LivesOfDesk desk → LifeOfDesk desk → Type 0
IsLifeOf lives l = (lives.first ≡ l) ⊎ Has lives.later (Lived l)

module _ (game : ℕ) (sent : List Message) (message : List ℕ) where
  -- At a socket with this ring, which carried this: if bytes came and open as the message, by a seal of its sender, and the
  -- message reads as a vote of the match, one of the stations had sealed them with that seal before. Anybody may make up asks.
  abbrev pub NoneForges : Ring → List Passed → Type 0
  NoneForges ring carried =
      (v : Vote) → Says game message (Message.Vote v) → (bytes seal : List ℕ) → Has carried (Came bytes)
      → Has (seals_by ring message) seal → IsSealed seal message bytes → IsUnforged seal game sent bytes

  -- at the sockets of a desk's lives, and at those of a board's
  abbrev pub NoneForgesAtDesk : {desk : DeskId} → LivesOfDesk desk → Type 0
  NoneForgesAtDesk lives =
      (l : LifeOfDesk _) → IsLifeOf lives l → NoneForges l.process.traces.ring l.process.traces.carried

  abbrev pub NoneForgesAtBoard : List LifeOfBoard → Type 0
  NoneForgesAtBoard lives =
      (b : LifeOfBoard) → Has lives b → NoneForges (traces_in b.life).ring (traces_in b.life).carried

-- so it is with the message that a call is given, if any
module _ (game : ℕ) (sent : List Message) where
  abbrev pub IsFineAtDesk : {desk : DeskId} → LivesOfDesk desk → DeskCall → Type 0
  IsFineAtDesk lives (desks.Given message what) = NoneForgesAtDesk game sent message lives
  IsFineAtDesk lives call = Unit {0}

  abbrev pub IsFineAtBoard : List LifeOfBoard → BoardCall → Type 0
  IsFineAtBoard lives (boards.Given message answer) = NoneForgesAtBoard game sent message lives
  IsFineAtBoard lives (boards.Parted message back) = NoneForgesAtBoard game sent message lives
  IsFineAtBoard lives call = Unit {0}

-- and with all that happened, the newest first
module _ (game : ℕ) (of_desk : (desk : DeskId) → LivesOfDesk desk) (of_board : ℕ → List LifeOfBoard) where
  abbrev pub IsFine : Configuration DeskDisk → Happening DeskDisk → Type 0
  IsFine w (DeskCalled d s call out l text) = IsFineAtDesk game w.sent (of_desk d) call
  IsFine w (BoardCalled n s call out l text seen) = IsFineAtBoard game w.sent (of_board n) call
  IsFine w what = Unit {0}

  abbrev pub NothingIsForged : Configuration DeskDisk → List (Happening DeskDisk) → Type 0
  NothingIsForged w [] = Unit {0}
  NothingIsForged w (h ∷ hs) = NothingIsForged w hs × IsFine (after w hs) h
