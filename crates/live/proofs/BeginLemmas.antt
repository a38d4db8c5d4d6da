-- Opening a file on a disk whose length was read before.
use Rattle.std.proofs.Common.{arith, ◌∙◌}
use Rattle.agree_core.specs.declared.messages.DeskId.{DeskId}
use Rattle.agree_core.specs.Books.{Rules}
use Rattle.agree_core.specs.FileView.{FileView, Stays, Synced}
use Rattle.agree_core.specs.Openings.{Opening, Opens}

module _ {Disk : Type 0} (view : FileView Disk) (old new : Disk) (same : Stays view old new) where
  synced_before : (left : Disk) → Synced view new left → Synced view old left
  synced_before left r = (r.0 ∙ same.0, λ image i. r.1 image i ∙ same.0)

  stays_before : (left : Disk) → Stays view new left → Stays view old left
  stays_before left r = (r.0 ∙ same.0, λ image. (λ i. (same.1 image).0 ((r.1 image).0 i), λ i. (r.1 image).1 ((same.1 image).1 i)))

  pub opens_before : {Why : Type 0} (rules : Rules Why) (d : DeskId) (opening : Opening Disk) → Opens view rules d new opening → Opens view rules d old opening
  opens_before rules d opening r = grind (arith, stays_before, synced_before)
