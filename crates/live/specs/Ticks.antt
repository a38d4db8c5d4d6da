-- When a station must tick, by its clock: it looks in each turn, and ticks at the latest half a second after its last tick.
use Rattle.std.specs.Prelude.{◌<◌, ◌+◌, ℕ, Bool, true, false, List, [], ◌∷◌, Option, Some, None, IfSome, IsSome}

-- what a call is to the clock: a look at it, whether something is due, or another reading of it, each with the time shown; a
-- tick; the end of a turn; or anything else
pub data Beat : Type 0 where
  Look : ℕ → Beat
  Reading : ℕ → Beat
  Tick : Beat
  TurnEnd : Beat
  Other : Beat

-- the times that the clock showed
abbrev pub reads : Beat → List ℕ
reads (Look now) = now ∷ []
reads (Reading now) = now ∷ []
reads beat = []

-- what a station's process saw of its clock: the time of its last tick, if it has ticked, and of its last look in this turn, if
-- it has looked
pub record Ticking : Type 0 where
  pub ticked : Option ℕ
  pub looked : Option ℕ

abbrev pub unticked : Ticking
unticked = record { ticked = None; looked = None }

-- until when a tick is recent: for half a second, in milliseconds of the clock
abbrev pub recent_until : Option ℕ → ℕ
recent_until None = 0
recent_until (Some ticked) = ticked + 500

-- at its last look in this turn, its last tick was recent, or it has ticked since
abbrev pub IsInTime : Ticking → Type 0
IsInTime k = IfSome k.looked (λ now. now < recent_until k.ticked)

-- A tick comes at a look. After a look at which the last tick wasn't recent, the station does nothing but tick. No turn ends
-- without a look.
abbrev pub MayBeat : Ticking → Beat → Type 0
MayBeat k Tick = IsSome k.looked
MayBeat k TurnEnd = IsSome k.looked × IsInTime k
MayBeat k beat = IsInTime k

abbrev pub after_beat : Ticking → Beat → Ticking
after_beat k (Look now) = record k { looked = Some now }
after_beat k Tick = record k { ticked = k.looked }
after_beat k TurnEnd = record k { looked = None }
after_beat k beat = k

-- after a look, and a tick if something was due
abbrev pub after_look : Bool → Ticking → ℕ → Ticking
after_look true k now = record { ticked = Some now; looked = Some now }
after_look false k now = record k { looked = Some now }
