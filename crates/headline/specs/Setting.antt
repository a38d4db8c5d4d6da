-- The setting of a match: its files, rules and scores.
use Rattle.std.specs.Prelude.{List}
use Rattle.notation.specs.declared.entry.Entry.{Entry}
use Rattle.match_laws.specs.declared.standing.Standing.{Standing}
use Rattle.agree_core.specs.declared.messages.DeskId.{DeskId}
use Rattle.agree_core.specs.Books.{Rules}
use Rattle.agree_core.specs.FileView.{FileView}
use Rattle.headline.specs.declared.version.FileVersion.{FileVersion}

-- how a disk shows each desk's votes, in a file of either version; the rules of a book; and what is shown as its score
pub record Setting (Disk Why : Type 0) : Type 1 where
  pub view : DeskId → FileVersion → FileView Disk
  pub rules : Rules Why
  pub shows : List Entry → Standing → Type 0
