-- What becomes of typed lines.
use Rattle.std.specs.Prelude.{◌-◌, ◌==◌, ◌&&◌, ◌||◌, ℕ, Bool, true, nat_lt, not, List, [], ◌∷◌, ◌++◌, Option, None, Some, codes, drop, if◌then◌else◌, length, take}
use Rattle.arrayvec.specs.ArrayString.{ArrayString}
use Rattle.links.specs.Typing.{Input, Line, End}
use Rattle.ahead.specs.declared.log.AheadLog.{AheadLog}
use Rattle.ahead.specs.declared.log.AheadLog as logs
use Rattle.ahead.specs.declared.handed.Handed.{Handed}
use Rattle.ahead.specs.Sorts.{is_entry, is_undo, may_cast}
use Rattle.ahead.specs.Undoing.{handed_behind}

-- all that was typed, oldest first
abbrev pub typed_of : AheadLog → List Input
typed_of logs.Empty = []
typed_of (logs.Passed' marker before buffer count) = typed_of before ++ Line (take count.value buffer.value) ∷ []
typed_of (logs.Held' marker before line) = typed_of before ++ Line line.value.bytes ∷ []
typed_of (logs.Cast' marker before handed) = typed_of before
typed_of (logs.TakenBack' marker before buffer count) = typed_of before ++ Line (take count.value buffer.value) ∷ []
typed_of (logs.Dropped' marker before) = typed_of before
typed_of (logs.Lost' marker before line) = typed_of before ++ Line line.value.bytes ∷ []
typed_of (logs.Told' marker before) = typed_of before
typed_of (logs.Unused' marker before buffer count) = typed_of before ++ Line (take count.value buffer.value) ∷ []
typed_of (logs.Stopped' marker before) = typed_of before ++ End ∷ []
typed_of (logs.Quit' marker before) = typed_of before
typed_of (logs.Ended' marker before) = typed_of before

-- the held lines, oldest first
abbrev pub held_of : AheadLog → List ArrayString
held_of logs.Empty = []
held_of (logs.Passed' marker before buffer count) = held_of before
held_of (logs.Held' marker before line) = held_of before ++ line.value ∷ []
held_of (logs.Cast' marker before handed) = drop 1 (held_of before)
held_of (logs.TakenBack' marker before buffer count) = take (length (held_of before) - 1) (held_of before)
held_of (logs.Dropped' marker before) = []
held_of (logs.Lost' marker before line) = held_of before
held_of (logs.Told' marker before) = held_of before
held_of (logs.Unused' marker before buffer count) = held_of before
held_of (logs.Stopped' marker before) = held_of before
held_of (logs.Quit' marker before) = held_of before
held_of (logs.Ended' marker before) = held_of before

-- the held line that the desk was given, if it is the last line that the desk may cast
abbrev pub handed_of : AheadLog → Option Handed
handed_of logs.Empty = None
handed_of (logs.Passed' marker before buffer count) = handed_behind (handed_of before) (take count.value buffer.value)
handed_of (logs.Held' marker before line) = handed_of before
handed_of (logs.Cast' marker before handed) = Some handed.value
handed_of (logs.TakenBack' marker before buffer count) = handed_of before
handed_of (logs.Dropped' marker before) = handed_of before
handed_of (logs.Lost' marker before line) = handed_of before
handed_of (logs.Told' marker before) = handed_of before
handed_of (logs.Unused' marker before buffer count) = handed_of before
handed_of (logs.Stopped' marker before) = handed_of before
handed_of (logs.Quit' marker before) = handed_of before
handed_of (logs.Ended' marker before) = handed_of before

-- the lines that were dropped when typed and that the scorer wasn't told of yet
abbrev pub lost_of : AheadLog → List ArrayString
lost_of logs.Empty = []
lost_of (logs.Passed' marker before buffer count) = lost_of before
lost_of (logs.Held' marker before line) = lost_of before
lost_of (logs.Cast' marker before handed) = lost_of before
lost_of (logs.TakenBack' marker before buffer count) = lost_of before
lost_of (logs.Dropped' marker before) = lost_of before
lost_of (logs.Lost' marker before line) = lost_of before ++ line.value ∷ []
lost_of (logs.Told' marker before) = []
lost_of (logs.Unused' marker before buffer count) = lost_of before
lost_of (logs.Stopped' marker before) = lost_of before
lost_of (logs.Quit' marker before) = lost_of before
lost_of (logs.Ended' marker before) = lost_of before

-- the dropped lines that the scorer was told of, in the order of telling
abbrev pub dropped_of : AheadLog → List ArrayString
dropped_of logs.Empty = []
dropped_of (logs.Passed' marker before buffer count) = dropped_of before
dropped_of (logs.Held' marker before line) = dropped_of before
dropped_of (logs.Cast' marker before handed) = dropped_of before
dropped_of (logs.TakenBack' marker before buffer count) = dropped_of before
dropped_of (logs.Dropped' marker before) = dropped_of before ++ held_of before
dropped_of (logs.Lost' marker before line) = dropped_of before
dropped_of (logs.Told' marker before) = dropped_of before ++ lost_of before
dropped_of (logs.Unused' marker before buffer count) = dropped_of before
dropped_of (logs.Stopped' marker before) = dropped_of before
dropped_of (logs.Quit' marker before) = dropped_of before
dropped_of (logs.Ended' marker before) = dropped_of before

-- the oldest held line, as the desk is given it
abbrev pub oldest : List ArrayString → List Input
oldest [] = []
oldest (line ∷ lines) = Line line.bytes ∷ []

-- what the desk was given, oldest first
abbrev pub given_of : AheadLog → List Input
given_of logs.Empty = []
given_of (logs.Passed' marker before buffer count) = given_of before ++ Line (take count.value buffer.value) ∷ []
given_of (logs.Held' marker before line) = given_of before
given_of (logs.Cast' marker before handed) = given_of before ++ oldest (held_of before)
given_of (logs.TakenBack' marker before buffer count) = given_of before
given_of (logs.Dropped' marker before) = given_of before
given_of (logs.Lost' marker before line) = given_of before
given_of (logs.Told' marker before) = given_of before
given_of (logs.Unused' marker before buffer count) = given_of before
given_of (logs.Stopped' marker before) = given_of before
given_of (logs.Quit' marker before) = given_of before ++ Line (codes "quit") ∷ []
given_of (logs.Ended' marker before) = given_of before ++ End ∷ []

abbrev pub bytes_of : List ArrayString → List (List ℕ)
bytes_of [] = []
bytes_of (line ∷ lines) = line.bytes ∷ bytes_of lines

-- the lines that the desk may cast
abbrev pub casting : List Input → List (List ℕ)
casting [] = []
casting (Line line ∷ inputs) = (if may_cast line then line ∷ [] else []) ++ casting inputs
casting (End ∷ inputs) = casting inputs

-- all lines but the newest
abbrev pub but_newest : {X : Type 0} → List X → List X
but_newest lines = take (length lines - 1) lines

-- the typed lines that the desk may cast and was given at once,
-- and those that were held, without those taken back; oldest first
abbrev pub kept_of : AheadLog → List (List ℕ)
kept_of logs.Empty = []
kept_of (logs.Passed' marker before buffer count) = kept_of before ++ casting (Line (take count.value buffer.value) ∷ [])
kept_of (logs.Held' marker before line) = kept_of before ++ line.value.bytes ∷ []
kept_of (logs.Cast' marker before handed) = kept_of before
kept_of (logs.TakenBack' marker before buffer count) = but_newest (kept_of before)
kept_of (logs.Dropped' marker before) = kept_of before
kept_of (logs.Lost' marker before line) = kept_of before
kept_of (logs.Told' marker before) = kept_of before
kept_of (logs.Unused' marker before buffer count) = kept_of before
kept_of (logs.Stopped' marker before) = kept_of before
kept_of (logs.Quit' marker before) = kept_of before
kept_of (logs.Ended' marker before) = kept_of before

-- A typed line that the desk may cast is given at once only if none is held; only a line that may be an entry's is held; and
-- a line is taken back only if one is held, by `undo`.
abbrev pub is_ordered : AheadLog → Bool
is_ordered logs.Empty = true
is_ordered (logs.Passed' marker before buffer count) =
    is_ordered before && (not (may_cast (take count.value buffer.value)) || (length (held_of before) == 0))
is_ordered (logs.Held' marker before line) = is_ordered before && is_entry line.value.bytes
is_ordered (logs.Cast' marker before handed) = is_ordered before
is_ordered (logs.TakenBack' marker before buffer count) =
    is_ordered before && (nat_lt 0 (length (held_of before)) && is_undo (take count.value buffer.value))
is_ordered (logs.Dropped' marker before) = is_ordered before
is_ordered (logs.Lost' marker before line) = is_ordered before
is_ordered (logs.Told' marker before) = is_ordered before
is_ordered (logs.Unused' marker before buffer count) = is_ordered before
is_ordered (logs.Stopped' marker before) = is_ordered before
is_ordered (logs.Quit' marker before) = is_ordered before
is_ordered (logs.Ended' marker before) = is_ordered before
