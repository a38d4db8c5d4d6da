-- A desk's node after a call, and the call's answer.
use Rattle.std.specs.Prelude.{◌≡◌, Bool, true, false, List, [], ◌∷◌, length}
use Rattle.agree_core.specs.declared.messages.Message.{Message}
use Rattle.agree_core.specs.Ballots.{Ballot}
use Rattle.agree_core.specs.Desks.{DeskState, PenAnswer, ReceiveAnswer}
use Rattle.agree_core.specs.FileView.{FileView}
use Rattle.agree_core.specs.Openings.{OpenRefusal, Opening}
use Rattle.headline.specs.Configurations.{Running, Down, Node}
use Rattle.headline.specs.Answers.{Answer, Penned, NotPenned, Told, Asked, HasFailed, Opened, Unsound, NoBook}
use Rattle.headline.specs.DeskFaults.{Breaks, StaysDown}

-- a desk's call ended without a fault: the desk runs on, and a due fault stays due
abbrev pub RunsOn : {Disk : Type 0} → Node Disk → DeskState Disk → Node Disk → Type 0
RunsOn x l y = y ≡ record x { process = Running l }

-- the node and the answer after a pen
abbrev pub AfterPen :
    {Disk Why : Type 0} → FileView Disk → Node Disk → PenAnswer Why → DeskState Disk
    → Answer Why → Node Disk → Type 0
AfterPen view x (PenAnswer.Penned settled) l answer y = (answer ≡ Penned settled) × RunsOn x l y
AfterPen view x (PenAnswer.Refused why) l answer y = (answer ≡ NotPenned why) × RunsOn x l y
AfterPen view x PenAnswer.DeviceFailed l answer y = Breaks view x l answer y

-- whether any message was handed out
abbrev pub has_any : List Message → Bool
has_any [] = false
has_any (m ∷ ms) = true

-- the node and the answer after the desk was given a message and handed out these
abbrev pub AfterReceive :
    {Disk Why : Type 0} → FileView Disk → Node Disk → ReceiveAnswer → DeskState Disk → List Message
    → Answer Why → Node Disk → Type 0
AfterReceive view x ReceiveAnswer.Failed l out answer y = (answer ≡ HasFailed) × RunsOn x l y
AfterReceive view x (ReceiveAnswer.Told h) l out answer y = (answer ≡ Told h) × RunsOn x l y
AfterReceive view x ReceiveAnswer.Asked l out answer y = (answer ≡ Asked (has_any out)) × RunsOn x l y
AfterReceive view x ReceiveAnswer.DeviceFailed l out answer y = Breaks view x l answer y

-- The node and the answer after the file of a desk that was down, with these votes, was opened. An opening that ran out of
-- memory is no step.
abbrev pub AfterOpen :
    {Disk Why : Type 0} → FileView Disk → Node Disk → List Ballot → Opening Disk
    → Answer Why → Node Disk → Type 0
AfterOpen view x votes (Opening.Opened k) answer y = (answer ≡ Opened (length k.book)) × RunsOn x k y
AfterOpen view x votes (Opening.NotOpened OpenRefusal.Unsound left) answer y =
    (answer ≡ Unsound) × (y ≡ record x { process = Down votes left })
AfterOpen view x votes (Opening.NotOpened (OpenRefusal.BadVotes place) left) answer y =
    (answer ≡ NoBook) × (y ≡ record x { process = Down votes left })
AfterOpen view x votes (Opening.NotOpened OpenRefusal.NoMemory left) answer y = ⊥
AfterOpen view x votes (Opening.NotOpened OpenRefusal.DeviceFailed left) answer y =
    StaysDown view x votes left answer y
