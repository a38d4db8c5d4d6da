-- What a history says: what a power loss may leave, and how many calls have failed.
use Rattle.std.specs.Prelude.{ℕ, ◌+◌}
use Rattle.entry_log.specs.Disk.{Images, Faults, Ever, cut_to, only, written}
use Rattle.machine_files.specs.declared.history.{Failures.Failures, Failures.Zero, Failures.More', History.History, History.Synced, History.Written', History.Cut'}

-- the images of the last sync's bytes, after each write and cut since
abbrev pub left_of : History → Images
left_of (Synced bytes) = only bytes.value.items
left_of (Written' marker before at count) = written at.value count.value (left_of before)
left_of (Cut' marker before len) = cut_to len.value (left_of before)

abbrev pub count_of : Failures → ℕ
count_of Zero = 0
count_of (More' marker before) = count_of before + 1

-- this many failures; a fault is always due, since the file may fail at any call
abbrev pub always_due : Failures → Faults
always_due failures = record { count = count_of failures; due = Ever 0 }
