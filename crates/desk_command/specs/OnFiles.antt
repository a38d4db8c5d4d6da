-- Which files a desk's disk is on, and the calls that were made on them before.
use Rattle.std.specs.Prelude.{◌≡◌, ◌<◌, ℕ, List, [], ◌∷◌, length, map, Option, None, Some}
use Rattle.machine_files.specs.declared.{file_disk.FileDisk.FileDisk, named_file.NamedFile.NamedFile, pair.Pair.Pair}
use Rattle.machine_files.specs.Calls.{Asked, Done, ReadFront, Sync, renewal}
use Rattle.machine_files.specs.FileDisk.{calls_of, file_of, name_of}
use Rattle.machine_files.specs.Named.{calls, name}
use Rattle.machine_files.specs.Pairs as both
use Rattle.setup.specs.declared.counting.Counting.{Counting}
use Rattle.setup.specs.Counting.{Compares, counting_bytes}
use Rattle.desk_command.specs.declared.desk_disk.DeskDisk.{DeskDisk}
use Rattle.desk_command.specs.declared.desk_disk.DeskDisk.TheVariants.{One, Two}

-- the disk is on the file of this path, on which exactly these calls were made, in this order, and each was done
pub record IsOn (path : List ℕ) (all : List Asked) (disk : FileDisk NamedFile) : Type 0 where
  pub named : name_of name disk ≡ Some path
  pub asked : calls_of calls disk ≡ Some (map Done all)

-- A disk on one file, of which these bytes were read. An empty file was synced and read again. For any other file a new one
-- with the same bytes took its place, and the disk has these bytes.
pub record IsOnFile (path : List ℕ) (disk : FileDisk NamedFile) : Type 0 where
  pub bytes : List ℕ
  pub empty : length bytes ≡ 0 → IsOn path (ReadFront bytes ∷ Sync ∷ ReadFront (file_of disk) ∷ []) disk
  pub renewed : 0 < length bytes → IsOn path (ReadFront bytes ∷ renewal bytes) disk
  pub held : 0 < length bytes → file_of disk ≡ bytes

-- A disk on two files, of which these bytes were read. Both files got the bytes that count, and the disk has them.
pub record AreOnFiles (path copys_path : List ℕ) (disk : Pair NamedFile NamedFile) : Type 0 where
  pub bytes : List ℕ
  pub copied : List ℕ
  pub counting : Counting
  pub counts : Compares counting bytes copied
  pub file : IsOn path (ReadFront bytes ∷ renewal (counting_bytes counting bytes copied)) (both.first_of disk)
  pub copy : IsOn copys_path (ReadFront copied ∷ renewal (counting_bytes counting bytes copied)) (both.second_of disk)
  pub held : both.file_of disk ≡ counting_bytes counting bytes copied

-- a desk's disk: on the file of this path alone if no copy is named, and otherwise on both files
abbrev pub IsOnFiles : List ℕ → Option (List ℕ) → DeskDisk → Type 0
IsOnFiles path None (One disk) = IsOnFile path disk
IsOnFiles path (Some copy) (Two disk) = AreOnFiles path copy disk
IsOnFiles path None (Two disk) = ⊥
IsOnFiles path (Some copy) (One disk) = ⊥
