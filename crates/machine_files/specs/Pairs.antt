-- What a disk on two files shows: the first file's bytes, and what a power loss may leave of that file.
use Rattle.std.specs.Prelude.{◌≡◌, ℕ, List, Option}
use Rattle.entry_log.specs.Disk.{Images, Faults}
use Rattle.machine_files.specs.declared.{file_disk.FileDisk.FileDisk, pair.Pair.Pair}
use Rattle.machine_files.specs.Alike.{IsAmong}
use Rattle.machine_files.specs.Calls.{Call}
use Rattle.machine_files.specs.FileDisk as one
use Rattle.machine_files.specs.History.{always_due}

module _ {F G : Type 0} where
  -- the disk on each of the two files
  abbrev pub first_of : Pair F G → FileDisk F
  first_of pair = pair.first

  abbrev pub second_of : Pair F G → FileDisk G
  second_of pair = pair.second

  abbrev pub file_of : Pair F G → List ℕ
  file_of pair = one.file_of pair.first

  abbrev pub images_of : Pair F G → Images
  images_of pair = one.images_of pair.first

  abbrev pub cap_of : Pair F G → ℕ
  cap_of pair = one.cap_of pair.first

  abbrev pub faults_of : Pair F G → Faults
  faults_of pair = always_due pair.failures

  -- the calls of each of the two files
  abbrev pub first_calls : (F → Option (List Call)) → Pair F G → Option (List Call)
  first_calls calls pair = one.calls_of calls pair.first

  abbrev pub second_calls : (G → Option (List Call)) → Pair F G → Option (List Call)
  second_calls calls pair = one.calls_of calls pair.second

  -- both files keep their names
  abbrev pub SameNames : (F → Option (List ℕ)) → (G → Option (List ℕ)) → Pair F G → Pair F G → Type 0
  SameNames first second old new =
      (one.name_of first new.first ≡ one.name_of first old.first)
      × (one.name_of second new.second ≡ one.name_of second old.second)

  -- Either file is enough: whatever a power loss may leave of it is an image of the one disk. So beginning with one file,
  -- if the other is lost, is beginning after a power loss.
  pub record EitherSuffices (pair : Pair F G) : Type 0 where
    pub first : IsAmong (one.images_of pair.first) (images_of pair)
    pub second : IsAmong (one.images_of pair.second) (images_of pair)
