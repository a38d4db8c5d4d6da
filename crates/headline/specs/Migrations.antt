-- Migration of the file of a desk that is down.
use Rattle.std.specs.Prelude.{◌≡◌, ◌⊎◌, Some, None, List, length}
use Rattle.agree_core.specs.Ballots.{Ballot}
use Rattle.agree_core.specs.FileView.{FileView, Holds, MaySync}
use Rattle.headline.specs.declared.version.FileVersion.{FileVersion}
use Rattle.headline.specs.declared.version.FileVersion.TheVariants.{Old, New}
use Rattle.headline.specs.Configurations.{Down, Node}
use Rattle.headline.specs.Answers.{Answer, Unsound, Migrated, OtherVersion}
use Rattle.headline.specs.DeskFaults.{StaysDown}

-- the result of migrating the old file of a desk that is down: a new file on another disk, or the old disk
pub data Migration (Disk : Type 0) : Type 0 where
  ToNew : List Ballot → Disk → Migration Disk
  NotSound : Disk → Migration Disk
  Failed : Disk → Migration Disk

-- the new file has exactly the votes that the old one shows; otherwise the old one may be synced, and nothing more
abbrev pub Migrates :
    {Disk : Type 0} → (FileVersion → FileView Disk) → Disk → Migration Disk → Type 0
Migrates view old (ToNew votes new) = ((view Old).reads old ≡ Some votes) × Holds (view New) new votes
Migrates view old (NotSound left) = ((view Old).reads old ≡ None) × MaySync (view Old) old left
Migrates view old (Failed left) = MaySync (view Old) old left

-- the desk stays down: with the new file and its due fault, or with the old file
abbrev pub AfterMigration :
    {Disk Why : Type 0} → (FileVersion → FileView Disk) → Node Disk → List Ballot → Migration Disk
    → Answer Why → Node Disk → Type 0
AfterMigration view x votes (ToNew found new) answer y =
    (answer ≡ Migrated (length found)) × (y ≡ record x { version = New; process = Down votes new })
AfterMigration view x votes (NotSound left) answer y =
    ((answer ≡ Unsound) ⊎ (answer ≡ OtherVersion)) × (y ≡ record x { process = Down votes left })
AfterMigration view x votes (Failed left) answer y = StaysDown (view Old) x votes left answer y

-- a file of the old version is migrated; a file of the new version is refused and stays
abbrev pub MigratesAt :
    {Disk Why : Type 0} → (FileVersion → FileView Disk) → Node Disk → FileVersion → List Ballot → Disk
    → Answer Why → Node Disk → Type 0
MigratesAt view x Old votes disk answer y =
    (migration : Migration _) × Migrates view disk migration × AfterMigration view x votes migration answer y
MigratesAt view x New votes disk answer y = (answer ≡ OtherVersion) × (y ≡ x)
