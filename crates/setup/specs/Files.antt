-- A desk's votes file: its name, and the calls that were made on it.
use Rattle.std.specs.Prelude.{◌≡◌, ℕ, List, [], ◌∷◌, Some}
use Rattle.machine_files.specs.declared.{file_disk.FileDisk.FileDisk, named_file.NamedFile.NamedFile}
use Rattle.machine_files.specs.Calls.{AddsDone, Done, ReadFront, Sync, renewal}
use Rattle.machine_files.specs.FileDisk.{calls_of, file_of, name_of}
use Rattle.machine_files.specs.Named.{calls, name}

-- the file of this path, of which only the bytes were read
pub record WasRead (path bytes : List ℕ) (file : NamedFile) : Type 0 where
  pub named : name file ≡ Some path
  pub asked : calls file ≡ Some (Done (ReadFront bytes) ∷ [])

-- a disk on this file, which was synced and then read
pub record IsReadAgain (file : NamedFile) (disk : FileDisk NamedFile) : Type 0 where
  pub named : name_of name disk ≡ name file
  pub asked : AddsDone (calls file) (calls_of calls disk) (Sync ∷ ReadFront (file_of disk) ∷ [])

-- a disk on a new file with these bytes, which took the place of the old file
pub record IsRenewed (file : NamedFile) (bytes : List ℕ) (disk : FileDisk NamedFile) : Type 0 where
  pub named : name_of name disk ≡ name file
  pub asked : AddsDone (calls file) (calls_of calls disk) (renewal bytes)
