-- What a migration prints, and why it fails.
use Rattle.std.specs.Prelude.{◌≡◌, ◌<◌, ◌⊎◌, ℕ, List, ◌++◌, codes, decimal, length, Result, Ok, Err, IsOk}
use Rattle.entry_log.specs.Disk.{Images}
use Rattle.entry_log.specs.Format.{contents}
use Rattle.entry_log.specs.Version1.{version_1}
use Rattle.vote_store.specs.Migrated.{IsMigrated}
use Rattle.vote_store.specs.declared.{migration.Migrated.Migrated, refusal.Refusal.Refusal}
use Rattle.vote_store.specs.Refusal.{not_empty}
use Rattle.vote_store.specs.Sequence.{file_votes}
use Rattle.entry_log.specs.declared.refusal.Refusal.TheVariants as files
use Rattle.setup.specs.declared.fault.StopFault.{StopFault}
use Rattle.commands.specs.declared.migrate.MigrateFault.{MigrateFault}
use Rattle.commands.specs.declared.migrate.MigrateFault.TheVariants.{NoMemory, Write, Device, Votes}

-- the line that says how many votes the new file has
abbrev pub migrated_line : ℕ → List ℕ
migrated_line votes = codes "migrated " ++ decimal votes ++ codes "\n"

-- The fault of a migration, by the desk's number, the match and the bytes of both disks: the first fault of the
-- old file, or that the old file is sound and the new disk isn't empty. Out of memory comes only with a sound old file.
abbrev pub WhyNotMigrated : ℕ → ℕ → List ℕ → List ℕ → MigrateFault → Type 0
WhyNotMigrated desk game old new (Votes why) =
    (file_votes (contents version_1) desk game old ≡ Err why)
    ⊎ ((why ≡ not_empty) × (0 < length new) × IsOk (file_votes (contents version_1) desk game old))
WhyNotMigrated desk game old new NoMemory = IsOk (file_votes (contents version_1) desk game old)
WhyNotMigrated desk game old new Device = Unit {0}
WhyNotMigrated desk game old new Write = Unit {0}

-- What a migration with this fault leaves on the new disk: after a failed write the whole new file, after a refusal what
-- was there. After a disk's failure nothing is said: the new file may be there in part.
abbrev pub Leaves : {E : Type 0} → ℕ → ℕ → List ℕ → (E → List ℕ) → (E → Images) → E → MigrateFault → E → Type 0
Leaves desk game old seen images new Device left = Unit {0}
Leaves desk game old seen images new Write left = (votes : ℕ) × IsMigrated desk game old (images left) votes
Leaves desk game old seen images new fault left = (seen left ≡ seen new) × (images left ≡ images new)

-- the old disk, which comes back with either answer
abbrev pub old_left : {D E : Type 0} → Result (Migrated D E) (MigrateFault × D × E) → D
old_left (Ok migrated) = migrated.old
old_left (Err ended) = ended.1

-- the fault of a refused votes file: out of memory and a failed disk are faults of their own
abbrev pub of_votes : Refusal → MigrateFault
of_votes Refusal.NoMemory = NoMemory
of_votes (Refusal.File files.Device) = Device
of_votes why = Votes why

-- the fault that standard error is told, and that decides the status
abbrev pub stop_of : MigrateFault → StopFault
stop_of NoMemory = StopFault.NoMemory
stop_of Write = StopFault.Write
stop_of Device = StopFault.Write
stop_of (Votes why) = StopFault.Votes why
