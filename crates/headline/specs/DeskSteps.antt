-- What an event does at the desk that it names, by cases of the event.
use Rattle.std.specs.Prelude.{◌≡◌, List, [], length}
use Rattle.agree_core.specs.declared.messages.{DeskId.DeskId, Message.Message}
use Rattle.agree_core.specs.Ballots.{Ballot}
use Rattle.agree_core.specs.Desks.{DeskState, PenAnswer, Pens, ReceiveAnswer, Receives, Ticks}
use Rattle.agree_core.specs.Openings.{Opening, Opens}
use Rattle.headline.specs.declared.event.Event.{Event}
use Rattle.headline.specs.Setting.{Setting}
use Rattle.headline.specs.Configurations.{Running, Down, Node}
use Rattle.headline.specs.Answers.{Answer, Ticked}
use Rattle.headline.specs.Given.{IsGiven}
use Rattle.headline.specs.DeskAnswers.{AfterOpen, AfterPen, AfterReceive}
use Rattle.headline.specs.Mishaps.{Befalls}

-- what an event does at the desk that it names: the messages handed out, and the answer
abbrev pub AtDesk :
    {Disk Why : Type 0} → Setting Disk Why → List Message → DeskId → Event
    → Node Disk → Answer Why → Node Disk → List Message → Type 0
-- its scorer pens an entry, while the desk runs
AtDesk s sent d (Event.Pen _ e) x answer y out =
    (k : DeskState _) × (l : DeskState _) × (penned : PenAnswer _) × (x.process ≡ Running k)
    × Pens (s.view d x.version) s.rules k e penned l out × AfterPen (s.view d x.version) x penned l answer y
-- the running desk is given the message of this number, or an ask
AtDesk s sent d (Event.Give n _) x answer y out =
    (k : DeskState _) × (l : DeskState _) × (m : Message) × (received : ReceiveAnswer)
    × (x.process ≡ Running k) × IsGiven sent n m
    × Receives (s.view d x.version) k m received l out × AfterReceive (s.view d x.version) x received l out answer y
-- the running desk sends what it has to send, and stays as it was
AtDesk s sent d (Event.Tick _) x answer y out =
    (k : DeskState _) × (x.process ≡ Running k) × Ticks k out × (answer ≡ Ticked (length out)) × (y ≡ x)
-- a desk that is down is opened from its file
AtDesk s sent d (Event.Open _) x answer y out =
    (votes : List Ballot) × (disk : _) × (opening : Opening _) × (x.process ≡ Down votes disk)
    × Opens (s.view d x.version) s.rules d disk opening × AfterOpen (s.view d x.version) x votes opening answer y × (out ≡ [])
-- its process ends, it loses power, its disk is set to fail, or its file is migrated
AtDesk s sent d event x answer y out = Befalls s d event x answer y out
