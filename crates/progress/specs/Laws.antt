-- What goes on in every match, with any code, any disks and any form of file.
use Rattle.std.specs.Prelude.{ℕ, List}
use Rattle.corrections.specs.declared.refusal.Refusal.{Refusal}
use Rattle.entry_log.specs.Disk.{Images}
use Rattle.entry_log.specs.Slots.{FileContents}
use Rattle.headline.specs.declared.version.FileVersion.{FileVersion}
use Rattle.headline.specs.Configurations.{Configuration}
use Rattle.headline.specs.Match.{setting_of}
use Rattle.headline.specs.Runs.{Begins, Moment, Run, last_of}
use Rattle.progress.specs.Progress.{HoldsAt}

-- for disks of this kind, with `seen` as what is read, and `images` as what a power loss may leave
module _ {Disk : Type 0} (seen : Disk → List ℕ) (images : Disk → Images) where
  -- it holds at each configuration that a run of the match of this number comes to, whatever a file of either version shows of
  -- its bytes (`contents`)
  abbrev pub GoesOnInEachRun : Type 0
  GoesOnInEachRun =
      (contents : FileVersion → FileContents) (game innings : ℕ) (version : FileVersion) (boards : ℕ) (w : Configuration Disk)
      (ms : List (Moment Disk Refusal)) → Begins (setting_of contents seen images game innings) version boards w
      → Run (setting_of contents seen images game innings) w ms
      → HoldsAt (setting_of contents seen images game innings) (last_of w ms)
