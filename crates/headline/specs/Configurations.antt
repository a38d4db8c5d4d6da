-- A configuration: two desks with a file each, the boards, and every message ever handed out.
use Rattle.std.specs.Prelude.{ℕ, zero, suc, Option, None, List, [], ◌∷◌, ◌++◌, slice_get, slice_set}
use Rattle.agree_core.specs.declared.messages.{DeskId.DeskId, Message.Message}
use Rattle.agree_core.specs.declared.messages.DeskId.TheVariants.{A, B}
use Rattle.agree_core.specs.Ballots.{Ballot, AllVotes}
use Rattle.agree_core.specs.Boards.{BoardState, fresh_board}
use Rattle.agree_core.specs.Desks.{DeskState}
use Rattle.headline.specs.declared.{fault.Fault.Fault, version.FileVersion.FileVersion}

-- A desk that runs, or one that is down: its disk, and the votes that it had stored (no process holds these: they stand here so
-- that claims can name them).
pub data Process (Disk : Type 0) : Type 0 where
  Running : DeskState Disk → Process Disk
  Down : List Ballot → Disk → Process Disk

-- a desk's node: its file's version, its process, and the fault that is due on its disk
pub record Node (Disk : Type 0) : Type 0 where
  pub version : FileVersion
  pub process : Process Disk
  pub due : Option Fault

-- the votes and the disk of a desk, whether it runs or is down
abbrev pub process_votes : {Disk : Type 0} → Process Disk → List Ballot
process_votes (Running k) = k.votes
process_votes (Down votes disk) = votes

abbrev pub process_disk : {Disk : Type 0} → Process Disk → Disk
process_disk (Running k) = k.disk
process_disk (Down votes disk) = disk

-- the process with this disk instead of its own
abbrev pub with_disk : {Disk : Type 0} → Process Disk → Disk → Process Disk
with_disk (Running k) disk = Running (record k { disk = disk })
with_disk (Down votes old) disk = Down votes disk

-- the nodes of desks A and B, the boards, and the messages sent
pub record Configuration (Disk : Type 0) : Type 0 where
  pub a : Node Disk
  pub b : Node Disk
  pub boards : List BoardState
  pub sent : List Message

abbrev pub node : {Disk : Type 0} → Configuration Disk → DeskId → Node Disk
node w A = w.a
node w B = w.b

-- the votes of both desks
abbrev pub all_votes : {Disk : Type 0} → Configuration Disk → AllVotes
all_votes w = record { a = process_votes w.a.process; b = process_votes w.b.process }

-- the board of this number, counted from 1
abbrev pub board_at : List BoardState → ℕ → Option BoardState
board_at boards zero = None
board_at boards (suc n) = slice_get boards n

-- the boards, with this one at that number
abbrev pub with_board : List BoardState → ℕ → BoardState → List BoardState
with_board boards zero k = boards
with_board boards (suc n) k = slice_set boards n k

-- the configuration with this node for the desk, and these messages added to those sent
abbrev pub with_node : {Disk : Type 0} → Configuration Disk → DeskId → Node Disk → List Message → Configuration Disk
with_node w A x out = record { a = x; b = w.b; boards = w.boards; sent = w.sent ++ out }
with_node w B x out = record { a = w.a; b = x; boards = w.boards; sent = w.sent ++ out }

abbrev pub fresh_boards : ℕ → List BoardState
fresh_boards zero = []
fresh_boards (suc n) = fresh_board ∷ fresh_boards n
