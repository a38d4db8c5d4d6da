-- The pace at which a station says what it says unasked.
use Rattle.std.specs.Prelude.{◌+◌, ◌*◌, ◌^◌, ◌-◌, ℕ, Bool, false, ◌||◌, if◌then◌else◌, min, nat_le, None}
use Rattle.live.specs.declared.pace.Pace.{Pace}
use Rattle.live.specs.Ticks.{Ticking, after_look, unticked}

-- when something is due, how long after that it is due again, whether to wait for the next datagram, and what was seen of the
-- clock
pub record Paced : Type 0 where
  pub due : ℕ
  pub wait : ℕ
  pub waits : Bool
  pub ticking : Ticking

abbrev pub ticking_of : Pace → Ticking
ticking_of pace = record { ticked = pace.ticked; looked = pace.looked }

abbrev pub paced : Pace → Paced
paced pace = record { due = pace.due; wait = pace.wait; waits = pace.waits; ticking = ticking_of pace }

-- this many milliseconds later, capped at the largest time
abbrev pub later : ℕ → ℕ → ℕ
later now wait = min (now + wait) (2 ^ 64 - 1)

-- something is due at once, and again after 20 ms
abbrev pub at_once : Paced
at_once = record { due = 0; wait = 20; waits = false; ticking = unticked }

abbrev pub turn_ended : Paced → Paced
turn_ended p = record p { ticking = record p.ticking { looked = None } }

-- the first datagram of a turn is waited for until something is due, half a second at most
abbrev pub wait_left : Paced → ℕ → ℕ
wait_left p now = if p.waits then min 500 (p.due - now) else 0

abbrev pub is_due : Paced → ℕ → Bool
is_due p now = nat_le p.due now

-- After a look at the clock: what is due is said now, and is due again after the wait, which then doubles, up to half a second.
abbrev pub after_taken : Bool → Paced → ℕ → Paced
after_taken due p now =
    record p {
      due = if due then later now p.wait else p.due;
      wait = if due then min 500 (p.wait * 2) else p.wait;
      ticking = after_look due p.ticking now;
    }

-- at a new position something is due at once; if an answer may come soon, after 20 ms at the latest
abbrev pub noted : Bool → Bool → Paced → ℕ → Paced
noted is_new may_come p now =
    record p {
      due = if is_new then 0 else if may_come then min p.due (later now 20) else p.due;
      wait = if is_new || may_come then 20 else p.wait;
    }
