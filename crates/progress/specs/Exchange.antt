-- An exchange: what a station says at a tick reaches a desk, and the desk's answers reach the station.
use Rattle.std.specs.Prelude.{◌≡◌, ◌≤◌, ◌⊎◌, ℕ, zero, suc, Some, List, [], ◌∷◌, ◌++◌, length, slice_get}
use Rattle.agree_core.specs.declared.messages.{DeskId.DeskId, Message.Message}
use Rattle.headline.specs.declared.{event.Event.Event, event.Station.Station}
use Rattle.headline.specs.Configurations.{Configuration}
use Rattle.headline.specs.Runs.{Moment, last_of}

-- the message was handed out in this moment, right after configuration w
abbrev pub HandsOut : {Disk Why : Type 0} → Configuration Disk → Moment Disk Why → Message → Type 0
HandsOut w m message = (n : ℕ) × (length w.sent ≤ n) × (slice_get m.after.sent n ≡ Some message)

-- the station is given the message in this moment, right after configuration w, by any number under which it was sent
abbrev pub ComesTo : {Disk Why : Type 0} → Configuration Disk → Moment Disk Why → Station → Message → Type 0
ComesTo w m t message = (n : ℕ) × (m.event ≡ Event.Give n t) × (slice_get w.sent n ≡ Some message)

-- the message reaches the station in one of these moments, from configuration w on
abbrev pub Reaches : {Disk Why : Type 0} → Configuration Disk → Station → Message → List (Moment Disk Why) → Type 0
Reaches w t message [] = ⊥
Reaches w t message (m ∷ ms) = ComesTo (last_of w ms) m t message ⊎ Reaches w t message ms

-- one of these moments, with the later and the earlier ones, the newest first
pub record Amid {Disk Why : Type 0} (ms : List (Moment Disk Why)) : Type 0 where
  pub later : List (Moment Disk Why)
  pub moment : Moment Disk Why
  pub earlier : List (Moment Disk Why)
  pub whole : ms ≡ later ++ (moment ∷ earlier)

-- in these moments, from configuration w on, the desk is given the message, and then the station each answer to it
pub record IsAnswered
    {Disk Why : Type 0} (w : Configuration Disk) (t : Station) (d : DeskId) (message : Message) (ms : List (Moment Disk Why))
    : Type 0 where
  pub at : Amid ms
  pub given : ComesTo (last_of w at.earlier) at.moment (Station.Desk d) message
  pub heard : (reply : Message) → HandsOut (last_of w at.earlier) at.moment reply → Reaches at.moment.after t reply at.later

-- in these moments the station ticks, and then the desk is given and answers each message handed out there
pub record Exchange
    {Disk Why : Type 0} (w : Configuration Disk) (t : Station) (d : DeskId) (ms : List (Moment Disk Why))
    : Type 0 where
  pub at : Amid ms
  pub ticks : at.moment.event ≡ Event.Tick t
  pub answered : (message : Message) → HandsOut (last_of w at.earlier) at.moment message
      → IsAnswered at.moment.after t d message at.later

-- in these moments the board of this number has this many exchanges with both desks, one after the other
abbrev pub HasExchanges : {Disk Why : Type 0} → Configuration Disk → ℕ → ℕ → List (Moment Disk Why) → Type 0
HasExchanges w n zero ms = Unit {0}
HasExchanges w n (suc m) ms =
    (later : List _) × (earlier : List _) × (ms ≡ later ++ earlier) × HasExchanges w n m earlier
    × ((d : DeskId) → Exchange (last_of w earlier) (Station.Board n) d later)
