-- The votes that a station has noted, told by what happened to processes.
use Rattle.std.specs.Prelude.{◌≡◌, ◌≢◌, ◌↔◌, ◌⊎◌, ℕ, List, [], ◌∷◌, Some, Ok}
use Rattle.notation.specs.declared.entry.Entry.{Entry}
use Rattle.agree_core.specs.declared.{messages.DeskId.DeskId, messages.Message.Message, seat.Settled.Settled}
use Rattle.agree_core.specs.declared.seat.Heard as hearing
use Rattle.agree_core.specs.Ballots.{Ballot, vote_of}
use Rattle.agree_core.specs.Openings.{Opened}
use Rattle.wire.specs.declared.what.What.TheVariants.{Heard}
use Rattle.wire.specs.Layout.{Says}
use Rattle.headline.specs.declared.event.Station.{Station}
use Rattle.headline.specs.Configurations.{Configuration}
use Rattle.headline.specs.Noted.{position_at}
use Rattle.headline.specs.KeptVotes.{kept_at}
use Rattle.live.specs.Boards as boards
use Rattle.live.specs.Boards.{BoardCall}
use Rattle.live.specs.Desks as desks
use Rattle.live.specs.Desks.{DeskCall}
use Rattle.station_texts.specs.declared.said.Said.TheVariants.{Penned}
use Rattle.processes.specs.Happenings.{BoardBegun, BoardCalled, DeskBegun, DeskCalled, Happening, after}

-- the bytes say a desk's vote for this ballot
abbrev pub SayVote : ℕ → List ℕ → DeskId → Ballot → Type 0
SayVote game bytes c b = Says game bytes (Message.Vote (vote_of c b))

-- a call of desk d brings it desk c's vote: its own scorer's line is penned, or the other desk's vote is given to it and heard
abbrev pub DeskBrings : ℕ → DeskId → DeskCall → DeskId → Ballot → Type 0
DeskBrings game d (desks.Typed line said) c b = (settled : Settled) × (said ≡ Penned b.entry settled) × (d ≡ c)
DeskBrings game d (desks.Given bytes what) c b =
    (heard : hearing.Heard) × (what ≡ Heard heard) × (d ≢ c) × SayVote game bytes c b
DeskBrings game d call c b = ⊥

-- a call of a board brings it a desk's vote: the vote is given to it and heard
abbrev pub BoardBrings : ℕ → BoardCall → DeskId → Ballot → Type 0
BoardBrings game (boards.Given bytes answer) c b =
    (heard : hearing.Heard) × (answer ≡ Ok (Heard heard)) × SayVote game bytes c b
BoardBrings game call c b = ⊥

-- the happening brings station t this vote of desk c
abbrev pub Brings : {Disk : Type 0} → ℕ → Happening Disk → Station → DeskId → Ballot → Type 0
Brings game (DeskCalled d s call out l text) t c b = (t ≡ Station.Desk d) × DeskBrings game d call c b
Brings game (BoardCalled n s call out l text seen) t c b = (t ≡ Station.Board n) × BoardBrings game call c b
Brings game what t c b = ⊥

-- the vote is for the station's position before the happening
abbrev pub IsBrought : {Disk : Type 0} → ℕ → Configuration Disk → Happening Disk → Station → DeskId → Ballot → Type 0
IsBrought game w what t c b = (position_at w t ≡ Some b.at) × Brings game what t c b

-- the station's next process begins, or tries to
abbrev pub BeginsAgain : {Disk : Type 0} → Happening Disk → Station → Type 0
BeginsAgain (DeskBegun d opening) t = t ≡ Station.Desk d
BeginsAgain (BoardBegun n) t = t ≡ Station.Board n
BeginsAgain what t = ⊥

-- the desk's next process begins, and this is the newest vote that it finds in its file
abbrev pub IsFound : {Disk : Type 0} → Happening Disk → DeskId → Ballot → Type 0
IsFound (DeskBegun d (Opened k)) c b = (d ≡ c) × (before : List Ballot) × (k.votes ≡ b ∷ before)
IsFound what c b = ⊥

-- A station whose process runs has noted this vote of a desk for its position, as in a run (`HasNoted` of `headline`): it is that
-- desk's first vote there that was brought since the process began, or the newest one that the desk's own process then found.
-- These are exactly the votes that processes keep (`KeepsNoted`), told by what happened and not by what they keep.
abbrev pub HasNoted : {Disk : Type 0} → ℕ → Configuration Disk → List (Happening Disk) → Station → DeskId → Ballot → Type 0
-- at the start no vote is noted
HasNoted game w [] t c b = ⊥
-- the vote is for the station's position after the last happening
HasNoted game w (h ∷ hs) t c b =
    (position_at (after w (h ∷ hs)) t ≡ Some b.at)
    -- and it was brought then, when no vote of that desk was noted there
    × ((IsBrought game (after w hs) h t c b
    × ((e : Entry) → HasNoted game w hs t c (record { at = b.at; entry = e }) → ⊥))
    -- or the station is that desk, whose process began then and found the vote
    ⊎ (((t ≡ Station.Desk c) × IsFound h c b)
    -- or the vote was noted before, and the station didn't begin again then
    ⊎ ((BeginsAgain h t → ⊥) × HasNoted game w hs t c b)))

-- processes keep exactly the noted votes
abbrev pub KeepsNoted : {Disk : Type 0} → ℕ → Configuration Disk → List (Happening Disk) → Type 0
KeepsNoted game w hs =
    (t : Station) (c : DeskId) (b : Ballot) → HasNoted game w hs t c b
    ↔ ((position_at (after w hs) t ≡ Some b.at) × (kept_at (after w hs) t c ≡ Some b.entry))
