-- What a desk's own votes say of its book.
use Rattle.std.specs.Prelude.{◌≡◌, ◌≢◌, ◌⊎◌, ℕ, nat_eq, Bool, true, false, Option, None, List, [], ◌∷◌, ◌++◌, length}
use Rattle.notation.specs.declared.entry.Entry.{Entry}
use Rattle.agree_core.specs.declared.messages.DeskId.{DeskId}
use Rattle.agree_core.specs.Ballots.{Ballot, In, vote_of}
use Rattle.agree_core.specs.Positions.{first}
use Rattle.agree_core.specs.Seats.{SeatState, waiting, resumed}

-- the book as the next vote comes: a vote for the same place leaves it, one for the next place adds the last vote's entry
abbrev pub closing : Bool → List Entry → Entry → List Entry
closing true book e = book
closing false book e = book ++ e ∷ []

-- the entry of the last vote of each place below the last voted place
abbrev pub book_of : List Ballot → List Entry
book_of [] = []
book_of (b ∷ []) = []
book_of (b ∷ c ∷ rest) = closing (nat_eq b.at.place c.at.place) (book_of (c ∷ rest)) c.entry

-- the entry of the last vote of each place, the last voted place included
abbrev pub voted_list : List Ballot → List Entry
voted_list [] = []
voted_list (b ∷ rest) = book_of (b ∷ rest) ++ b.entry ∷ []

-- the seat of a desk whose file has these votes
abbrev pub seat_of : DeskId → List Ballot → SeatState
seat_of d [] = waiting d first
seat_of d (b ∷ rest) = resumed (vote_of d b)

-- the agreed list by two files: the book that the first shows, and its last vote if the other file has that vote too
abbrev pub IsAgreedByFiles : List Ballot → List Ballot → List Entry → Type 0
IsAgreedByFiles [] theirs xs = xs ≡ []
IsAgreedByFiles (b ∷ bs) theirs xs =
    (In b theirs × (xs ≡ voted_list (b ∷ bs)))
    ⊎ ((In b theirs → ⊥) × (xs ≡ book_of (b ∷ bs)))

-- a book's rules: why an entry may not come next after these entries, if it may not
abbrev pub Rules : Type 0 → Type 0
Rules Why = List Entry → Entry → Option Why

-- each of these entries may come next in turn, after this book
abbrev pub AllTaken : {Why : Type 0} → Rules Why → List Entry → List Entry → Type 0
AllTaken rules book [] = Unit {0}
AllTaken rules book (e ∷ es) = (rules book e ≡ None) × AllTaken rules (book ++ e ∷ []) es

-- the place of the first of these entries that may not come next
abbrev pub FirstRefused : {Why : Type 0} → Rules Why → List Entry → List Entry → ℕ → Type 0
FirstRefused rules book [] place = ⊥
FirstRefused rules book (e ∷ es) place =
    ((rules book e ≢ None) × (place ≡ length book))
    ⊎ ((rules book e ≡ None) × FirstRefused rules (book ++ e ∷ []) es place)
