-- What a page shows of a desk, besides the rows that the desk tells.
use Rattle.std.specs.Prelude.{◌≡◌, ℕ, List, [], ◌∷◌, All}
use Rattle.agree_core.specs.Desks.{DeskState}
use Rattle.agree_core.specs.Openings.{NotOpened, Opened, Opening}
use Rattle.cards.specs.Sheet.{Sheet}
use Rattle.screen.specs.Sights.{DeskSight, sight_at}
use Rattle.live.specs.DeskLife.{fresh}
use Rattle.live.specs.Desks.{DeskCall, DeskProcess, own_line}
use Rattle.live.specs.Runs.{Kind, Moment, Run, last_of}

-- what a scorer may see of a desk in this state
abbrev pub desk_sight : {Disk : Type 0} → Sheet → ℕ → DeskState Disk → DeskSight
desk_sight s n k = sight_at s n k.book k.seat.position (own_line k)

-- how the page changes when these sights are handed to it, the newest of which stands first
abbrev pub GoesOn : {Page : Type 0} → (Page → DeskSight → Page → Type 0) → Page → List DeskSight → Page → Type 0
GoesOn goes_on old [] new = new ≡ old
GoesOn goes_on old (sight ∷ older) new = (page : _) × GoesOn goes_on old older page × goes_on page sight new

module _ {Disk : Type 0} (kind : Kind (DeskProcess Disk) DeskCall) (sheet : Sheet) (innings : ℕ) where
  -- a process that begins with this desk comes to a desk of which this is seen
  abbrev pub IsSeen : DeskState Disk → DeskSight → Type 0
  IsSeen k sight =
      (moments : List (Moment (DeskProcess Disk) DeskCall)) × Run kind (fresh k) moments
      × (sight ≡ desk_sight sheet innings (last_of (fresh k) moments).desk)

  -- each time, the page is handed what is seen of this desk in its process
  abbrev pub IsShown : {Page : Type 0} → (Page → DeskSight → Page → Type 0) → DeskState Disk → Page → Page → Type 0
  IsShown goes_on k old new = (sights : List DeskSight) × All (IsSeen k) sights × GoesOn goes_on old sights new

  -- the page is handed nothing if no desk was opened
  abbrev pub IsShownFrom :
      {Page : Type 0} → (Page → DeskSight → Page → Type 0) → Opening Disk → Page → Page → Type 0
  IsShownFrom goes_on (Opened k) old new = IsShown goes_on k old new
  IsShownFrom goes_on (NotOpened why left) old new = new ≡ old
