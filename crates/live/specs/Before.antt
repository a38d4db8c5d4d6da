-- The votes of a desk with held lines are for lines that its scorer typed before.
use Rattle.std.specs.Prelude.{◌≡◌, ℕ, List, [], ◌∷◌, ◌++◌}
use Rattle.agree_core.specs.FileView.{FileView}
use Rattle.cards.specs.Sheet.{Sheet}
use Rattle.ahead.specs.declared.log.AheadLog.{AheadLog}
use Rattle.ahead.specs.Ahead.{given_of, kept_of}
use Rattle.ahead.specs.Order.{AreAmong, CastsInOrder}
use Rattle.live.specs.Desks.{DeskCall, DeskProcess, DiskView, Typed, desk_kind}
use Rattle.live.specs.Runs.{Moment, Run, typed_in}
use Rattle.station_texts.specs.declared.said.Said.{Said}

-- the line of a call that says an entry, whether its vote is cast or refused
abbrev pub line_said : DeskCall → List (List ℕ)
line_said (Typed line (Said.Penned entry settled)) = line ∷ []
line_said (Typed line (Said.Refused entry why)) = line ∷ []
line_said call = []

-- the lines that say entries in these moments, the oldest first
abbrev pub lines_said : {Disk : Type 0} → List (Moment (DeskProcess Disk) DeskCall) → List (List ℕ)
lines_said [] = []
lines_said (m ∷ ms) = lines_said ms ++ line_said m.call

-- In a run of a desk's process that was given exactly what an `Ahead` made of the typed lines, the lines for which votes were
-- cast or refused are lines that were typed and weren't taken back, each at most once, in their order.
abbrev pub VotesWereTyped : {Disk : Type 0} → FileView Disk → DiskView Disk → Type 0
VotesWereTyped view disks =
    (sheet : Sheet) (game innings : ℕ) (k : DeskProcess _) (ms : List (Moment (DeskProcess _) DeskCall)) (log : AheadLog)
    → Run (desk_kind sheet view disks game innings) k ms
    → typed_in (desk_kind sheet view disks game innings) ms ≡ given_of log → CastsInOrder log
    → AreAmong (lines_said ms) (kept_of log)
