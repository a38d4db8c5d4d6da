-- Why the wanted corrections couldn't be read.
use Rattle.std.specs.Prelude.{◌≡◌, Result, Err}
use Rattle.shorthand.specs.Lines.{Reason, reason_of}
use Rattle.plans.specs.declared.planning.Unread.{Unread}

abbrev pub IsUnread : {X : Type 0} → Result X Reason → Unread → Type 0
IsUnread read (Unread.Unclear unclear) = read ≡ Err (reason_of unclear)
IsUnread read Unread.NoMemory = Unit {0}
