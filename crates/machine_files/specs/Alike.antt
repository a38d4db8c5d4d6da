-- Two files that are kept alike: their bytes, and what a power loss may leave of them.
use Rattle.std.specs.Prelude.{◌≡◌, ℕ, List}
use Rattle.std.specs.Coded.{→_prop, Π_prop}
use Rattle.std.proofs.Props.{props}
use Rattle.entry_log.specs.Disk.{Images, IsImage}
use Rattle.entry_log.specs.inner.Memory.{Agrees-prop}
use Rattle.machine_files.specs.declared.file_disk.FileDisk.{FileDisk}
use Rattle.machine_files.specs.FileDisk.{file_of, images_of}

-- whatever a power loss may leave by some, it may leave by all
abbrev pub IsAmong : Images → Images → Type 0
IsAmong some all = (bytes : List ℕ) → IsImage some bytes → IsImage all bytes

-- both files have the same bytes and the same images
pub record AreAlike {F G : Type 0} (first : FileDisk F) (second : FileDisk G) : Type 0 where
  pub held : file_of second ≡ file_of first
  pub left : images_of second ≡ images_of first

-- any two proofs of these are the same
pub IsAmong-prop : (some all : Images) → IsProp (IsAmong some all)
IsAmong-prop some all = Π_prop (λ bytes. →_prop (Agrees-prop all.front all.open_end bytes))

pub AreAlike-prop : {F G : Type 0} (first : FileDisk F) (second : FileDisk G) → IsProp (AreAlike first second)
AreAlike-prop first second = hlevel props
