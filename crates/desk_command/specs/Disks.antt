-- What a desk's disk shows, on its file alone or on the file and its copy.
use Rattle.std.specs.Prelude.{ℕ, List}
use Rattle.entry_log.specs.Disk.{Faults, Images, IsImage}
use Rattle.machine_files.specs.FileDisk as alone
use Rattle.machine_files.specs.Pairs as both
use Rattle.desk_command.specs.declared.desk_disk.DeskDisk.{DeskDisk}
use Rattle.desk_command.specs.declared.desk_disk.DeskDisk.TheVariants.{One, Two}

abbrev pub file_of : DeskDisk → List ℕ
file_of (One disk) = alone.file_of disk
file_of (Two disk) = both.file_of disk

abbrev pub images_of : DeskDisk → Images
images_of (One disk) = alone.images_of disk
images_of (Two disk) = both.images_of disk

abbrev pub faults_of : DeskDisk → Faults
faults_of (One disk) = alone.faults_of disk
faults_of (Two disk) = both.faults_of disk

abbrev pub cap_of : DeskDisk → ℕ
cap_of (One disk) = alone.cap_of disk
cap_of (Two disk) = both.cap_of disk

-- the bytes that a read gives are one of the images
abbrev pub is_image : (disk : DeskDisk) → IsImage (images_of disk) (file_of disk)
is_image (One disk) = disk.image
is_image (Two disk) = disk.first.image
