-- Votes of two worked matches, with the entries left open, and what the votes settle.
use Rattle.std.specs.Prelude.{◌≡◌, ◌≢◌, Some, None, List, [], ◌∷◌}
use Rattle.notation.specs.declared.entry.Entry.{Entry}
use Rattle.agree_core.specs.declared.messages.DeskId.TheVariants.{A}
use Rattle.agree_core.specs.Agreed.{IsAgreedList, SettledIn}
use Rattle.agree_core.specs.Ballots.{AllJustified, Ballot, AllVotes, ballot_at}
use Rattle.agree_core.specs.Books.{Rules, FirstRefused, book_of, seat_of, voted_list}

-- three places on which the desks agreed at once
abbrev pub three : Entry → Entry → Entry → List Ballot
three p q r = ballot_at 2 0 r ∷ ballot_at 1 0 q ∷ ballot_at 0 0 p ∷ []

-- then A votes for a four and B for a six
abbrev pub differing : Entry → Entry → Entry → Entry → Entry → AllVotes
differing p q r four six =
    record { a = ballot_at 3 0 four ∷ three p q r; b = ballot_at 3 0 six ∷ three p q r }

-- and in the next round both vote for the six
abbrev pub agreeing : Entry → Entry → Entry → Entry → Entry → AllVotes
agreeing p q r four six =
    record {
      a = ballot_at 3 1 six ∷ ballot_at 3 0 four ∷ three p q r;
      b = ballot_at 3 1 six ∷ ballot_at 3 0 six ∷ three p q r;
    }

-- the first round leaves the place open, and the second settles it
abbrev pub SecondRound : Entry → Entry → Entry → Entry → Entry → Type 0
SecondRound p q r four six =
    AllJustified (differing p q r four six) × AllJustified (agreeing p q r four six)
    × IsAgreedList (differing p q r four six) (p ∷ q ∷ r ∷ [])
    × IsAgreedList (agreeing p q r four six) (p ∷ q ∷ r ∷ six ∷ [])

-- A's file then shows the first three entries, and its vote of the second round as its own
abbrev pub FileOfSecondRound : Entry → Entry → Entry → Entry → Entry → Type 0
FileOfSecondRound p q r four six =
    (book_of (agreeing p q r four six).a ≡ p ∷ q ∷ r ∷ [])
    × (voted_list (agreeing p q r four six).a ≡ p ∷ q ∷ r ∷ six ∷ [])
    × (seat_of A (agreeing p q r four six).a
    ≡ record { desk = A; position = record { place = 3; round = 1 }; mine = Some six; theirs = None })

-- votes that no desks cast in turn: equal votes in two rounds settle the place in the first
abbrev pub twice : Entry → Entry → AllVotes
twice e f =
    record { a = ballot_at 0 1 f ∷ ballot_at 0 0 e ∷ []; b = ballot_at 0 1 f ∷ ballot_at 0 0 e ∷ [] }

abbrev pub LeastRound : Entry → Entry → Type 0
LeastRound e f = SettledIn (twice e f) 0 0 e × (SettledIn (twice e f) 0 1 f → ⊥)

-- an entry that may not come first is refused at place 0, and an entry that may not follow it at place 1
abbrev pub RefusedInTurn : {Why : Type 0} → Rules Why → Entry → Entry → Type 0
RefusedInTurn rules e f =
    (rules [] e ≢ None → FirstRefused rules [] (e ∷ f ∷ []) 0)
    × (rules [] e ≡ None → rules (e ∷ []) f ≢ None → FirstRefused rules [] (e ∷ f ∷ []) 1)
