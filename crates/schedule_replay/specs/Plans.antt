-- Which device calls are set to fail, on disks in memory.
use Rattle.std.specs.Prelude.{◌≡◌, ◌-◌, Bool, true, false, IfSome, option_map, Option, Some, None}
use Rattle.entry_log.specs.Disk.{Due}
use Rattle.entry_log.specs.MemDisk.{faults_of, plan_of}
use Rattle.entry_log.specs.declared.mem_disk.{MemDisk.MemDisk, plan.Plan.Plan}
use Rattle.entry_log.specs.declared.mem_disk.plan.Plan.TheVariants.{Calm, Fail, Stop}
use Rattle.agree_core.specs.declared.messages.DeskId.{DeskId}
use Rattle.headline.specs.declared.{event.Event.Event, event.Station.Station, fault.Fault.Fault}
use Rattle.headline.specs.Events.{station_of}
use Rattle.headline.specs.Configurations.{Configuration, node, process_disk}

-- the plan that an event leaves on its desk's disk: n - 1 calls pass, and then one call fails, or all do; after a kill or a
-- power loss no call is set to fail
abbrev pub plan_by : Event → Option Plan
plan_by (Event.FailAt d n) = Some (Fail (n - 1))
plan_by (Event.StopAt d n) = Some (Stop (n - 1))
plan_by (Event.Kill d) = Some Calm
plan_by (Event.Power d choice) = Some Calm
plan_by _ = None

-- whether the event asks for a fault
abbrev pub asks_fault : Event → Bool
asks_fault (Event.FailAt d n) = true
asks_fault (Event.StopAt d n) = true
asks_fault _ = false

-- if the event leaves a plan, the disk has exactly that plan, which each of its calls follows
abbrev pub HasPlan : Event → Option MemDisk → Type 0
HasPlan event disk = IfSome (plan_by event) (λ plan. option_map plan_of disk ≡ Some plan)

-- the event leaves its plan on the disk of its desk
abbrev pub LeavesPlan : Event → Configuration MemDisk → Type 0
LeavesPlan event w = (d : DeskId) → station_of event ≡ Station.Desk d → HasPlan event (Some (process_disk (node w d).process))

-- the number of the disk call that is set to fail
abbrev pub due_on : Option MemDisk → Option Due
due_on disk = option_map (λ (d : MemDisk). (faults_of d).due) disk

-- a fault that stays due is due at the same call as before, so each call between counts it down
abbrev pub StaysDue : Option Fault → Option MemDisk → Option MemDisk → Type 0
StaysDue due old new = (fault : Fault) → due ≡ Some fault → due_on new ≡ due_on old

-- at each desk, after an event that asks for no fault, a due fault is counted down
abbrev pub CountsDown : Event → Configuration MemDisk → Configuration MemDisk → Type 0
CountsDown event w v =
    asks_fault event ≡ false
    → (d : DeskId) → StaysDue (node v d).due (Some (process_disk (node w d).process)) (Some (process_disk (node v d).process))
