-- No board sees that a desk's file lacks lines while both desks' files are kept.
use Rattle.std.specs.Prelude.{◌≡◌, ℕ, Bool, true, false, nat_eq, if◌then◌else◌, List, [], ◌∷◌, All, Option, Some, None, slice_get}
use Rattle.agree_core.specs.declared.messages.{Message.Message, Vote.Vote}
use Rattle.agree_core.specs.Boards.{BoardState}
use Rattle.board.specs.Rounds.{parts}
use Rattle.board.specs.declared.trouble.{Trouble.Trouble, Why.Why}
use Rattle.board.specs.declared.trouble.Why.TheVariants.{Anew}
use Rattle.board.specs.declared.witness.Round.{Round}
use Rattle.headline.specs.Configurations.{Configuration, board_at}
use Rattle.live.specs.Boards as boards
use Rattle.live.specs.Boards.{BoardCall, rounds_after}
use Rattle.live.specs.Sights.{Sight}
use Rattle.processes.specs.Happenings.{BoardBegun, BoardCalled, BoardGreeted, Happening, after}

-- the rounds that a board has heard whole after a call, the oldest first
abbrev pub rounds_called : Option BoardState → BoardCall → List Round → List Round
rounds_called (Some k) (boards.Given bytes answer) rounds = rounds_after k rounds bytes answer
rounds_called k call rounds = rounds

-- the rounds that the board of this number has heard whole since it last began
abbrev pub rounds_at : {Disk : Type 0} → Configuration Disk → ℕ → List (Happening Disk) → List Round
rounds_at w n [] = []
rounds_at w n (BoardCalled m s call out l text seen ∷ hs) =
    if nat_eq n m then rounds_called (board_at (after w hs).boards m) call (rounds_at w n hs) else rounds_at w n hs
rounds_at w n (BoardBegun m ∷ hs) = if nat_eq n m then [] else rounds_at w n hs
rounds_at w n (h ∷ hs) = rounds_at w n hs

-- no vote that a station ever handed out contradicts a round that a board has heard
abbrev pub NoVoteParts : {Disk : Type 0} → Configuration Disk → List (Happening Disk) → Type 0
NoVoteParts w hs =
    (n i : ℕ) (v : Vote) → slice_get (after w hs).sent i ≡ Some (Message.Vote v) → parts (rounds_at w n hs) v ≡ false

-- a board's process drops a vote as one that shows that a desk's file lacks lines
abbrev pub IsParted : {Disk : Type 0} → Happening Disk → Type 0
IsParted (BoardCalled n s (boards.Parted bytes back) out l text seen) = Unit {0}
IsParted what = ⊥

abbrev pub NoneIsParted : {Disk : Type 0} → List (Happening Disk) → Type 0
NoneIsParted [] = Unit {0}
NoneIsParted (h ∷ hs) = NoneIsParted hs × (IsParted h → ⊥)

-- whether the cause says that a desk's file lacks lines
abbrev pub is_anew : Why → Bool
is_anew Anew = true
is_anew why = false

abbrev pub tells_anew : Option Trouble → Bool
tells_anew None = false
tells_anew (Some trouble) = is_anew trouble.why

abbrev pub TellsNothing : Sight → Type 0
TellsNothing sight = tells_anew sight.trouble ≡ false

-- what a board hands over to be shown doesn't tell that a desk's file lacks lines
abbrev pub TellsNone : {Disk : Type 0} → Happening Disk → Type 0
TellsNone (BoardGreeted n s text seen) = All TellsNothing seen
TellsNone (BoardCalled n s call out l text seen) = All TellsNothing seen
TellsNone what = Unit {0}

abbrev pub NoneTells : {Disk : Type 0} → List (Happening Disk) → Type 0
NoneTells [] = Unit {0}
NoneTells (h ∷ hs) = NoneTells hs × TellsNone h
