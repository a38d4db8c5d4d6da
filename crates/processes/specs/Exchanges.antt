-- An exchange of processes, by what happens to them: the messages that a station's process sends at a tick come to a desk's
-- process, and its replies come to the station's.
use Rattle.std.specs.Prelude.{◌≡◌, ◌⊎◌, ℕ, zero, suc, Ok, Some, List, [], ◌∷◌, ◌++◌, slice_get}
use Rattle.agree_core.specs.declared.messages.{DeskId.DeskId, Message.Message}
use Rattle.wire.specs.declared.what.What.{What}
use Rattle.wire.specs.Layout.{Says}
use Rattle.headline.specs.declared.event.Station.{Station}
use Rattle.live.specs.Boards as boards
use Rattle.live.specs.Boards.{BoardCall}
use Rattle.live.specs.Desks as desks
use Rattle.live.specs.Desks.{DeskCall}
use Rattle.processes.specs.Happenings.{BoardCalled, DeskCalled, Happening}

-- a call of a desk, or of a board, is given bytes that say this message, and the desk or board hears or answers it
abbrev pub DeskTakes : ℕ → Message → DeskCall → Type 0
DeskTakes game message (desks.Given bytes (What.Heard heard)) = Says game bytes message
DeskTakes game message (desks.Given bytes What.Asked) = Says game bytes message
DeskTakes game message call = ⊥

abbrev pub BoardTakes : ℕ → Message → BoardCall → Type 0
BoardTakes game message (boards.Given bytes (Ok (What.Bad fault))) = ⊥
BoardTakes game message (boards.Given bytes answer) = Says game bytes message
BoardTakes game message call = ⊥

module _ {Disk : Type 0} where
  -- the messages handed out in a happening
  abbrev pub handed_out : Happening Disk → List Message
  handed_out (DeskCalled d s call out l text) = out
  handed_out (BoardCalled n s call out l text seen) = out
  handed_out what = []

  -- the message is handed out in this happening
  abbrev pub IsSaid : Message → Happening Disk → Type 0
  IsSaid message what = (i : ℕ) × (slice_get (handed_out what) i ≡ Some message)

  -- the station's process ticks
  abbrev pub Ticks : Station → Happening Disk → Type 0
  Ticks (Station.Desk d) (DeskCalled c s desks.Ticked out l text) = c ≡ d
  Ticks (Station.Board n) (BoardCalled k s boards.Ticked out l text seen) = k ≡ n
  Ticks t what = ⊥

  -- the station's process takes the message
  abbrev pub Takes : ℕ → Station → Message → Happening Disk → Type 0
  Takes game (Station.Desk d) message (DeskCalled c s call out l text) = (c ≡ d) × DeskTakes game message call
  Takes game (Station.Board n) message (BoardCalled k s call out l text seen) = (k ≡ n) × BoardTakes game message call
  Takes game t message what = ⊥

  -- the station's process takes the message in one of these happenings
  abbrev pub IsTaken : ℕ → Station → Message → List (Happening Disk) → Type 0
  IsTaken game t message [] = ⊥
  IsTaken game t message (h ∷ hs) = Takes game t message h ⊎ IsTaken game t message hs

  -- the desk's process takes the message, and then the station's process takes each message that the desk hands out for it
  pub record IsReplied (game : ℕ) (t : Station) (d : DeskId) (message : Message) (hs : List (Happening Disk)) : Type 0 where
    pub later : List (Happening Disk)
    pub at : Happening Disk
    pub earlier : List (Happening Disk)
    pub whole : hs ≡ later ++ (at ∷ earlier)
    pub taken : Takes game (Station.Desk d) message at
    pub heard : (reply : Message) → IsSaid reply at → IsTaken game t reply later

  -- the station's process ticks, and then the desk's process takes each message that this hands out, and replies
  pub record ProcessExchange (game : ℕ) (t : Station) (d : DeskId) (hs : List (Happening Disk)) : Type 0 where
    pub later : List (Happening Disk)
    pub at : Happening Disk
    pub earlier : List (Happening Disk)
    pub whole : hs ≡ later ++ (at ∷ earlier)
    pub ticks : Ticks t at
    pub answered : (message : Message) → IsSaid message at → IsReplied game t d message later

  -- the board's process has this many exchanges with both desks' processes, one after the other
  abbrev pub HaveExchanged : ℕ → ℕ → ℕ → List (Happening Disk) → Type 0
  HaveExchanged game n zero hs = Unit {0}
  HaveExchanged game n (suc m) hs =
      (later : List (Happening Disk)) × (earlier : List (Happening Disk)) × (hs ≡ later ++ earlier)
      × HaveExchanged game n m earlier × ((d : DeskId) → ProcessExchange game (Station.Board n) d later)
