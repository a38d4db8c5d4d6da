-- No message of a station shows that a desk's file lacks lines while both desks' files are kept.
use Rattle.std.specs.Prelude.{◌≡◌, ℕ, false, List, Some, slice_get}
use Rattle.agree_core.specs.declared.messages.{Ask.Ask, Message.Message}
use Rattle.agree_core.specs.Desks.{DeskState}
use Rattle.headline.specs.Configurations.{Configuration, Running, node}
use Rattle.live.specs.Desks as desks
use Rattle.live.specs.Desks.{shown_by}
use Rattle.station_texts.specs.Doubts.{is_loss}
use Rattle.wire.specs.Layout.{Says}
use Rattle.processes.specs.Happenings.{DeskCalled, Happening}

-- if the bytes say an ask, that ask was handed out before
abbrev pub AskWasHandedOut : ℕ → List Message → List ℕ → Type 0
AskWasHandedOut game sent bytes = (q : Ask) → Says game bytes (Message.Ask q) → (n : ℕ) × (slice_get sent n ≡ Some (Message.Ask q))

-- Bytes that a desk is given show neither that the other desk's file lacks lines nor that its own does, unless they are an ask
-- that somebody made up.
abbrev pub ShowsNoLoss : {Disk : Type 0} → ℕ → Configuration Disk → Happening Disk → Type 0
ShowsNoLoss game w (DeskCalled d s (desks.Given bytes what) out l text) =
    (k : DeskState _) → (node w d).process ≡ Running k → AskWasHandedOut game w.sent bytes → is_loss (shown_by k bytes what) ≡ false
ShowsNoLoss game w what = Unit {0}
