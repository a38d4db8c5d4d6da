-- What faults, kills and power losses do to a desk and its disk.
use Rattle.std.specs.Prelude.{◌≡◌, Option, Some, None, List}
use Rattle.agree_core.specs.Ballots.{Ballot}
use Rattle.agree_core.specs.Desks.{DeskState}
use Rattle.agree_core.specs.FileView.{FileView, Stays}
use Rattle.headline.specs.declared.fault.Fault.TheVariants.{Fail, Stop}
use Rattle.headline.specs.declared.fault.Fault.{Fault}
use Rattle.headline.specs.Configurations.{Running, Down, Node, process_disk, process_votes, with_disk}
use Rattle.headline.specs.Answers.{Answer, DeviceFailed, Stopped}

-- a device call of a running desk failed by this fault: the desk has failed, or is down if the fault was a stop
abbrev pub BreaksBy :
    {Disk Why : Type 0} → FileView Disk → Node Disk → Fault → DeskState Disk
    → Answer Why → Node Disk → Type 0
BreaksBy view x Fail l answer y =
    (answer ≡ DeviceFailed) × (y ≡ record x { process = Running l; due = None })
BreaksBy view x Stop l answer y =
    (disk : _) × (answer ≡ Stopped) × Stays view l.disk disk
    × (y ≡ record x { process = Down l.votes disk; due = None })

-- it fails only by the fault that is due, which is then spent
abbrev pub Breaks :
    {Disk Why : Type 0} → FileView Disk → Node Disk → DeskState Disk → Answer Why → Node Disk → Type 0
Breaks view x l answer y = (fault : Fault) × (x.due ≡ Some fault) × BreaksBy view x fault l answer y

-- a device call failed by this fault at a desk that is down: the desk stays down
abbrev pub StaysDownBy :
    {Disk Why : Type 0} → FileView Disk → Node Disk → Fault → List Ballot → Disk
    → Answer Why → Node Disk → Type 0
StaysDownBy view x Fail votes left answer y =
    (answer ≡ DeviceFailed) × (y ≡ record x { process = Down votes left; due = None })
StaysDownBy view x Stop votes left answer y =
    (disk : _) × (answer ≡ Stopped) × Stays view left disk
    × (y ≡ record x { process = Down votes disk; due = None })

-- it fails only by the fault that is due, which is then spent
abbrev pub StaysDown :
    {Disk Why : Type 0} → FileView Disk → Node Disk → List Ballot → Disk → Answer Why → Node Disk → Type 0
StaysDown view x votes left answer y =
    (fault : Fault) × (x.due ≡ Some fault) × StaysDownBy view x fault votes left answer y

-- power is lost: the disk then has one of its images, and that one can't be lost any more
abbrev pub LosesPower : {Disk : Type 0} → FileView Disk → Disk → Disk → Type 0
LosesPower view old new =
    view.Image old (view.reads new)
    × ((image : Option (List Ballot)) → view.Image new image → image ≡ view.reads new)

-- the process ends, and the disk stays
abbrev pub Ends : {Disk : Type 0} → FileView Disk → Node Disk → Node Disk → Type 0
Ends view x y =
    (disk : _) × Stays view (process_disk x.process) disk
    × (y ≡ record x { process = Down (process_votes x.process) disk; due = None })

-- a fault is due on the disk, instead of any earlier one
abbrev pub FallsDue : {Disk : Type 0} → FileView Disk → Fault → Node Disk → Node Disk → Type 0
FallsDue view fault x y =
    (disk : _) × Stays view (process_disk x.process) disk
    × (y ≡ record x { process = with_disk x.process disk; due = Some fault })
