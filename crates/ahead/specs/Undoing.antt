-- When `undo` may be meant for a held line that the desk was given.
use Rattle.std.specs.Prelude.{◌-◌, ◌==◌, ◌&&◌, ℕ, Bool, nat_lt, List, [], ◌∷◌, Option, None, Some, if◌then◌else◌}
use Rattle.arrayvec.specs.ArrayString.{ArrayString}
use Rattle.links.specs.declared.{aside.Aside.Aside, keys.Typed.Typed, stand.Stand.Stand}
use Rattle.ahead.specs.declared.handed.TheConstants.{HELD_UNDO_WAIT}
use Rattle.ahead.specs.declared.handed.Handed.{Handed}
use Rattle.ahead.specs.Sorts.{is_undo, may_cast}

-- the oldest held line, given to a desk that stands at `at` when its clock shows `now`
abbrev pub handed_at : Stand → ℕ → List ArrayString → Option Handed
handed_at at now [] = None
handed_at at now (l ∷ ls) = Some (record { line = l; place = at.place; millis = now })

-- the held line given last, once the desk is given a typed line: forgotten, if the desk may cast the typed line
abbrev pub handed_behind : Option Handed → List ℕ → Option Handed
handed_behind handed line = if may_cast line then None else handed

-- the desk was given the line less than five seconds ago, by the clock
abbrev pub is_recent : Handed → ℕ → Bool
is_recent handed now = nat_lt (now - handed.millis) HELD_UNDO_WAIT

-- what the scorer is told at a place where the desk has no vote: at
-- the line's own that it wasn't taken, at the next that it is cast
abbrev pub row_at : ℕ → Handed → Option Aside
row_at place handed =
    if place == handed.place then Some (Aside.Untaken handed.place handed.line)
    else if place - handed.place == 1 then Some (Aside.WasHeld handed.place handed.line)
    else None

-- what the scorer is told of an `undo` then, if the two don't differ; nothing of any other line, or later
abbrev pub answer_to : Option Handed → Stand → ℕ → List ℕ → Option Aside
answer_to None at now line = None
answer_to (Some handed) at now line =
    if is_undo line && ((at.round == 0) && is_recent handed now) then row_at at.place handed else None

-- a row for the scorer, or else the line of `count` bytes for the desk
abbrev pub told_or_given : Option Aside → ℕ → Typed
told_or_given None count = Typed.Line count
told_or_given (Some aside) count = Typed.Aside aside
