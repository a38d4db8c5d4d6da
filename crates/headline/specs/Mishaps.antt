-- What befalls a desk: its process ends, it loses power, its disk is set to fail, its file is migrated.
use Rattle.std.specs.Prelude.{◌≡◌, None, List, []}
use Rattle.agree_core.specs.declared.messages.{DeskId.DeskId, Message.Message}
use Rattle.agree_core.specs.Ballots.{Ballot}
use Rattle.agree_core.specs.Desks.{DeskState}
use Rattle.headline.specs.declared.event.Event.{Event}
use Rattle.headline.specs.declared.fault.Fault.TheVariants.{Fail, Stop}
use Rattle.headline.specs.Setting.{Setting}
use Rattle.headline.specs.Configurations.{Running, Down, Node, process_disk, process_votes}
use Rattle.headline.specs.Answers.{Answer, Done}
use Rattle.headline.specs.DeskFaults.{LosesPower, Ends, FallsDue}
use Rattle.headline.specs.Migrations.{MigratesAt}

-- what an event other than a running desk's call does at the desk that it names
abbrev pub Befalls :
    {Disk Why : Type 0} → Setting Disk Why → DeskId → Event → Node Disk → Answer Why → Node Disk → List Message → Type 0
-- its process ends, while the desk runs
Befalls s d (Event.Kill _) x answer y out =
    (k : DeskState _) × (x.process ≡ Running k) × Ends (s.view d x.version) x y × (answer ≡ Done) × (out ≡ [])
-- running or down, it loses power, and keeps its votes
Befalls s d (Event.Power _ choice) x answer y out =
    (disk : _) × LosesPower (s.view d x.version) (process_disk x.process) disk
    × (y ≡ record x { process = Down (process_votes x.process) disk; due = None }) × (answer ≡ Done) × (out ≡ [])
-- running or down, its disk is set to fail; at which call, counted by n, is left open here
Befalls s d (Event.FailAt _ n) x answer y out =
    FallsDue (s.view d x.version) Fail x y × (answer ≡ Done) × (out ≡ [])
-- likewise, and all later calls fail too
Befalls s d (Event.StopAt _ n) x answer y out =
    FallsDue (s.view d x.version) Stop x y × (answer ≡ Done) × (out ≡ [])
-- while the desk is down, its file is migrated
Befalls s d (Event.Migrate _) x answer y out =
    (votes : List Ballot) × (disk : _) × (x.process ≡ Down votes disk)
    × MigratesAt (s.view d) x x.version votes disk answer y × (out ≡ [])
-- any other event is a call, or is for a board
Befalls s d _ x answer y out = ⊥
