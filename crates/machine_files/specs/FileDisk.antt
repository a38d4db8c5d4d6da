-- What a disk on a real file shows: the bytes that it holds in memory.
use Rattle.std.specs.Prelude.{ℕ, List, Option}
use Rattle.entry_log.specs.Disk.{Images, Faults}
use Rattle.machine_files.specs.declared.file_disk.FileDisk.{FileDisk}
use Rattle.machine_files.specs.Calls.{Call}
use Rattle.machine_files.specs.History.{always_due, left_of}

abbrev pub file_of : {F : Type 0} → FileDisk F → List ℕ
file_of disk = disk.bytes.items

abbrev pub images_of : {F : Type 0} → FileDisk F → Images
images_of disk = left_of disk.history

-- the calls of the disk's file
abbrev pub calls_of : {F : Type 0} → (F → Option (List Call)) → FileDisk F → Option (List Call)
calls_of calls disk = calls disk.file

-- the name of the disk's file
abbrev pub name_of : {F : Type 0} → (F → Option (List ℕ)) → FileDisk F → Option (List ℕ)
name_of name disk = name disk.file

abbrev pub cap_of : {F : Type 0} → FileDisk F → ℕ
cap_of disk = disk.cap

abbrev pub faults_of : {F : Type 0} → FileDisk F → Faults
faults_of disk = always_due disk.failures
