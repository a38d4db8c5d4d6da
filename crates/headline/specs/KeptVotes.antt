-- The votes that stations keep for their positions.
use Rattle.std.specs.Prelude.{◌≡◌, ◌↔◌, Option, Some, None, option_and_then, List}
use Rattle.notation.specs.declared.entry.Entry.{Entry}
use Rattle.agree_core.specs.declared.messages.DeskId.{DeskId}
use Rattle.agree_core.specs.declared.messages.DeskId.TheVariants.{A, B}
use Rattle.agree_core.specs.Ballots.{Ballot}
use Rattle.agree_core.specs.Boards.{BoardState}
use Rattle.agree_core.specs.Readers.{noted_of}
use Rattle.agree_core.specs.Seats.{SeatState}
use Rattle.headline.specs.declared.event.Station.{Station}
use Rattle.headline.specs.Setting.{Setting}
use Rattle.headline.specs.Configurations.{Process, Running, Down, Configuration, board_at, node}
use Rattle.headline.specs.Runs.{Moment, last_of}
use Rattle.headline.specs.Noted.{HasNoted, position_at}

-- the vote of a desk that a desk's seat, or a board's reader, keeps for its position
abbrev pub kept_by_seat : SeatState → DeskId → DeskId → Option Entry
kept_by_seat seat A A = seat.mine
kept_by_seat seat A B = seat.theirs
kept_by_seat seat B A = seat.theirs
kept_by_seat seat B B = seat.mine

abbrev pub kept_by_process : {Disk : Type 0} → Process Disk → DeskId → DeskId → Option Entry
kept_by_process (Running k) d c = kept_by_seat k.seat d c
kept_by_process (Down votes disk) d c = None

abbrev pub kept_at : {Disk : Type 0} → Configuration Disk → Station → DeskId → Option Entry
kept_at w (Station.Desk d) c = kept_by_process (node w d).process d c
kept_at w (Station.Board n) c = option_and_then (λ (k : BoardState). noted_of k.reader c) (board_at w.boards n)

-- seats and readers keep exactly the noted votes
abbrev pub KeepsNoted : {Disk Why : Type 0} → Setting Disk Why → Configuration Disk → List (Moment Disk Why) → Type 0
KeepsNoted s w ms =
    (t : Station) (c : DeskId) (b : Ballot) → HasNoted s w ms t c b
    ↔ ((position_at (last_of w ms) t ≡ Some b.at) × (kept_at (last_of w ms) t c ≡ Some b.entry))

-- no station keeps both votes of its position
abbrev pub NoneKeepsBoth : {Disk : Type 0} → Configuration Disk → Type 0
NoneKeepsBoth w = (t : Station) (e f : Entry) → kept_at w t A ≡ Some e → kept_at w t B ≡ Some f → ⊥
