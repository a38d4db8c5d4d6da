-- The sights in a log of what was handed over to be shown.
use Rattle.std.specs.Prelude.{ℕ, List, [], ◌∷◌, ◌++◌}
use Rattle.notation.specs.declared.entry.Entry.{Entry}
use Rattle.live.specs.Sights.{Sight, sight_of}
use Rattle.live.specs.declared.sight_log.SightLog.{SightLog}
use Rattle.live.specs.declared.sight_log.SightLog as handed

module _ {B : Type 0} (content : B → List Entry) (innings_of : B → ℕ) where
  abbrev pub sights_of : SightLog B → List Sight
  sights_of handed.Empty = []
  sights_of (handed.Handed' marker before sheet book trouble) =
      sights_of before ++ sight_of sheet.value (innings_of book.value) (content book.value) trouble.value ∷ []
