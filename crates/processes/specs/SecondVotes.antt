-- The second of two equal votes is brought to a station that has noted the first.
use Rattle.std.specs.Prelude.{ℕ, List, [], ◌∷◌, ◌++◌}
use Rattle.notation.specs.declared.entry.Entry.{Entry}
use Rattle.agree_core.specs.declared.messages.DeskId.{DeskId}
use Rattle.agree_core.specs.declared.messages.DeskId.TheVariants.{A, B}
use Rattle.agree_core.specs.Ballots.{Ballot}
use Rattle.agree_core.specs.Readers.{other}
use Rattle.headline.specs.declared.event.Station.{Station}
use Rattle.headline.specs.Configurations.{Configuration}
use Rattle.headline.specs.Runs.{Shows}
use Rattle.processes.specs.Happenings.{Happening, after}
use Rattle.processes.specs.Noted.{HasNoted, IsBrought}

-- If the last happening brings the second of two equal votes to a station that has noted the first, both for the station's
-- position, its book grows by their entry.
abbrev pub TakesSecond : {Disk : Type 0} → ℕ → Configuration Disk → List (Happening Disk) → Type 0
TakesSecond game w [] = Unit {0}
TakesSecond game w (h ∷ hs) =
    (t : Station) (book : List Entry) (b : Ballot) (c : DeskId) → Shows (after w hs) t book → HasNoted game w hs t c b
    → IsBrought game (after w hs) h t (other c) b → Shows (after w (h ∷ hs)) t (book ++ b.entry ∷ [])

-- no station is left with both votes of its position noted, equal or not
abbrev pub NoneWaits : {Disk : Type 0} → ℕ → Configuration Disk → List (Happening Disk) → Type 0
NoneWaits game w hs =
    (t : Station) (a b : Ballot) → HasNoted game w hs t A a → HasNoted game w hs t B b → ⊥

-- the property holds at the start and after each of the happenings, of those so far
abbrev pub AfterEach : {Disk : Type 0} → List (Happening Disk) → (List (Happening Disk) → Type 0) → Type 0
AfterEach [] P = P []
AfterEach (h ∷ hs) P = P (h ∷ hs) × AfterEach hs P

-- the property holds of each happening, in the configuration in which it happened
abbrev pub AtEachHappening :
    {Disk : Type 0} → Configuration Disk → List (Happening Disk)
    → (Configuration Disk → Happening Disk → Type 0) → Type 0
AtEachHappening w [] P = Unit {0}
AtEachHappening w (h ∷ hs) P = AtEachHappening w hs P × P (after w hs) h
