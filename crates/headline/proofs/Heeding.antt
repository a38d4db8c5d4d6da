-- What a seat and a reader make of a vote; what another board or desk is.
use Rattle.std.proofs.Common.{◌≡◌, ◌≢◌, ◌⊎◌, ◌+◌, ℕ, suc, Option, Some, None, List, ◌∷◌, ap, ◌∙◌, arith}
use Rattle.std.specs.Prelude.{slice_get, slice_set}
use Rattle.notation.specs.declared.entry.Entry.{Entry}
use Rattle.agree_core.specs.declared.{messages.DeskId.DeskId, messages.Vote.Vote, position.Position.Position, seat.Heard.Heard}
use Rattle.agree_core.specs.Boards.{BoardState}
use Rattle.agree_core.specs.Positions.{position_of}
use Rattle.agree_core.specs.Readers.{Listens, ReaderState, noted_of, other}
use Rattle.agree_core.specs.Readers as readers
use Rattle.agree_core.specs.Seats.{Hears, SeatState}
use Rattle.agree_core.proofs.Order.{not_before}
use Rattle.headline.specs.declared.event.Station.{Station}
use Rattle.headline.specs.Configurations.{board_at, with_board}
use Rattle.headline.specs.KeptVotes.{kept_by_seat}

set_other : (xs : List BoardState) (m n : ℕ) (l : BoardState) → m ≢ n → slice_get (slice_set xs m l) n ≡ slice_get xs n
set_other (x ∷ xs) (suc m) (suc n) l h = set_other xs m n l (λ e. h (ap suc e))
set_other h0 m n l h = grind arith

pub board_other : (boards : List BoardState) (m n : ℕ) (l : BoardState) → m ≢ n → board_at (with_board boards m l) n ≡ board_at boards n
board_other boards m n l h0 = grind (arith, set_other)

set_there : (xs : List BoardState) (n : ℕ) (k l : BoardState) → slice_get xs n ≡ Some k → slice_get (slice_set xs n l) n ≡ Some l
set_there (x ∷ xs) (suc n) k l e = set_there xs n k l e
set_there h0 n k l e = grind arith

pub board_put : (boards : List BoardState) (n : ℕ) (k l : BoardState) → board_at boards n ≡ Some k → board_at (with_board boards n l) n ≡ Some l
board_put boards n k l h0 = grind (arith, set_there)

pub other_not : (d : DeskId) → other d ≢ d
other_not d = grind arith

pub some_none : {X : Type 0} (o : Option X) (x : X) → o ≡ None → o ≡ Some x → ⊥
some_none o x p q = cc

-- A heard vote changes nothing unless it is the other desk's first for the seat's position; then the seat keeps it, or moves to
-- another position without any vote.
abbrev pub Heeds : SeatState → Vote → SeatState → Type 0
Heeds k v l =
    ((l ≡ k) × (v.desk ≢ k.desk → position_of v ≡ k.position → k.theirs ≡ None → ⊥))
    ⊎ (((v.desk ≢ k.desk) × (position_of v ≡ k.position) × (k.theirs ≡ None) × (l.position ≡ k.position) × (l.mine ≡ k.mine) × (l.theirs ≡ Some v.entry))
    ⊎ ((k.position ≢ l.position) × (l.mine ≡ None) × (l.theirs ≡ None)))

pub heeds : (k l : SeatState) (v : Vote) (h : Heard) → Hears k v h l → Heeds k v l
heeds k l v h3 r = grind (arith, not_before, some_none)

-- likewise for a board's reader
abbrev pub Reads : ReaderState → Vote → ReaderState → Type 0
Reads k v l =
    ((l ≡ k) × (position_of v ≡ k.position → noted_of k v.desk ≡ None → ⊥))
    ⊎ (((position_of v ≡ k.position) × (noted_of k v.desk ≡ None) × (l ≡ readers.noting k v.desk v.entry))
    ⊎ ((k.position ≢ l.position) × (l.a ≡ None) × (l.b ≡ None)))

pub reads : (k l : ReaderState) (v : Vote) (h : Heard) → Listens k v h l → Reads k v l
reads k l v h3 r = grind (arith, not_before, some_none)

pub noting_there : (k : ReaderState) (d : DeskId) (e : Entry) → noted_of (readers.noting k d e) d ≡ Some e
noting_there k d e = grind arith

pub noting_at : (k : ReaderState) (d : DeskId) (e : Entry) → (readers.noting k d e).position ≡ k.position
noting_at k d e = grind arith
