-- The votes that a desk's scorer has penned in a run.
use Rattle.std.specs.Prelude.{◌≡◌, ◌⊎◌, List, [], ◌∷◌}
use Rattle.agree_core.specs.declared.messages.DeskId.{DeskId}
use Rattle.agree_core.specs.Ballots.{Ballot}
use Rattle.agree_core.specs.Desks.{DeskState}
use Rattle.headline.specs.declared.event.Event.{Event}
use Rattle.headline.specs.Configurations.{Running, Configuration, node}
use Rattle.headline.specs.Answers.{Answer}
use Rattle.headline.specs.Runs.{Moment, last_of}

-- a pen with this answer may have stored its vote: it was taken, or cut off
abbrev pub MayStore : {Why : Type 0} → Answer Why → Type 0
MayStore (Answer.Penned settled) = Unit {0}
MayStore Answer.DeviceFailed = Unit {0}
MayStore Answer.Stopped = Unit {0}
MayStore _ = ⊥

-- the desk runs at the ballot's position, and its scorer pens the ballot's entry, which isn't refused
abbrev pub PensBallot :
    {Disk Why : Type 0} → Configuration Disk → Event → Answer Why → DeskId → Ballot → Type 0
PensBallot w event answer d b =
    (event ≡ Event.Pen d b.entry)
    × ((k : DeskState _) × ((node w d).process ≡ Running k) × (k.seat.position ≡ b.at))
    × MayStore answer

-- the desk's scorer penned this ballot in one of these events
abbrev pub WasPenned :
    {Disk Why : Type 0} → Configuration Disk → List (Moment Disk Why) → DeskId → Ballot → Type 0
WasPenned w [] d b = ⊥
WasPenned w (m ∷ ms) d b = PensBallot (last_of w ms) m.event m.answer d b ⊎ WasPenned w ms d b
