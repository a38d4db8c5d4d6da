-- A desk's file shows a book of settled entries, and two files show the agreed list.
use Rattle.std.proofs.Common.{◌≡◌, ℕ, ◌+◌, Bool, true, false, nat_eq, List, [], ◌∷◌, ◌++◌, length, sym, ap, ◌∙◌, arith, append_assoc, append-nil, length-append}
use Rattle.std.proofs.lemmas.Bool.Decides.{nat_tests}
use Rattle.notation.specs.declared.entry.Entry.{Entry}
pub use Rattle.agree_core.specs.Agreed.{AllBoth}
use Rattle.agree_core.specs.Agreed.{BeginsWith, IsAgreedList}
use Rattle.agree_core.specs.Ballots.{Ballot, AllVotes, AllJustified, Justified, In, IsSequence, ballot_at}
use Rattle.agree_core.specs.Books.{book_of, closing, IsAgreedByFiles}
use Rattle.agree_core.specs.Laws.{FilesSettled}
use Rattle.agree_core.proofs.Order.{earlier, in_sequence}
use Rattle.agree_core.proofs.Settling.{Both, none_later}
use Rattle.agree_core.proofs.Both.{both_grow, both_push, both_settled, both_turned, more, same}

-- a vote of a later round leaves the book that the file shows
pub book_kept : (b c : Ballot) (rest : List Ballot) (book : List Entry) → b.at.place ≡ c.at.place
    → book_of (c ∷ rest) ≡ book → book_of (b ∷ c ∷ rest) ≡ book
book_kept b c rest book e h = grind (arith, nat_tests)

-- a vote of the next place closes the place before it
pub book_closed : (b c : Ballot) (rest : List Ballot) (book : List Entry) → b.at.place ≡ c.at.place + 1
    → book_of (c ∷ rest) ≡ book → book_of (b ∷ c ∷ rest) ≡ book ++ c.entry ∷ []
book_closed b c rest book e h = grind (arith, nat_tests)

-- votes that are cast later only add to the book
pub book_begins : (later votes : List Ballot) → BeginsWith (book_of (later ++ votes)) (book_of votes)
book_begins [] votes = ([], simp append-nil)
book_begins (b ∷ later) votes = one_more b (later ++ votes) (book_of votes) (book_begins later votes)
  where
    added : (same : Bool) (whole front : List Entry) (e : Entry) → BeginsWith whole front → BeginsWith (closing same whole e) front
    added true whole front e h = h
    added false whole front e h = (h.0 ++ e ∷ [], sym (append_assoc front h.0 (e ∷ [])) ∙ ap (λ (o : List Entry). o ++ e ∷ []) h.1)

    one_more : (b : Ballot) (votes : List Ballot) (front : List Entry) → BeginsWith (book_of votes) front → BeginsWith (book_of (b ∷ votes)) front
    one_more b [] front h = h
    one_more b (c ∷ rest) front h = added (nat_eq b.at.place c.at.place) (book_of (c ∷ rest)) front c.entry h

-- the book is as long as the place of the last vote
pub book_long : (b : Ballot) (bs : List Ballot) → IsSequence (b ∷ bs) → length (book_of (b ∷ bs)) ≡ b.at.place
book_long b [] s = grind arith
book_long b (c ∷ rest) s = grind (arith, nat_tests, book_long c rest s.2, length-append (book_of (c ∷ rest)) (c.entry ∷ []))

-- the book that a file shows has the entries on which both voted
pub book_agreed : (theirs : List Ballot) (b : Ballot) (bs : List Ballot) → Justified theirs (b ∷ bs)
    → AllBoth (b ∷ bs) theirs 0 (book_of (b ∷ bs))
book_agreed theirs b [] j = tt
book_agreed theirs b (c ∷ rest) j =
    let before = both_grow (c ∷ rest) (b ∷ c ∷ rest) theirs theirs (more b (c ∷ rest)) (same theirs) 0 (book_of (c ∷ rest)) (book_agreed theirs c rest j.2) in
    let size = book_long c rest (in_sequence theirs (c ∷ rest) j.2) in
    grind (arith, before, size, book_kept b c rest, book_closed b c rest, both_push (b ∷ c ∷ rest) theirs 0 (book_of (c ∷ rest)))

pub book_both : (theirs votes : List Ballot) → Justified theirs votes → AllBoth votes theirs 0 (book_of votes)
book_both theirs [] j = tt
book_both theirs (b ∷ bs) j = book_agreed theirs b bs j

pub files_settled : (v : AllVotes) → AllJustified v → FilesSettled v
files_settled v j h = grind (arith, both_settled, book_both, both_turned)

-- no vote is for a place after that of the last vote
none_ahead : (theirs : List Ballot) (b : Ballot) (bs : List Ballot) → Justified theirs (b ∷ bs) → (r : ℕ) (e : Entry)
    → In (ballot_at (b.at.place + 1) r e) (b ∷ bs) → ⊥
none_ahead theirs b bs j r e i = grind (arith, earlier theirs b bs j (ballot_at (b.at.place + 1) r e))

-- the place of the last vote is settled only if the other desk has that vote too
last_settled : (theirs : List Ballot) (b : Ballot) (bs : List Ballot) → Justified theirs (b ∷ bs) → Justified (b ∷ bs) theirs
    → (r : ℕ) (e : Entry) → Both (b ∷ bs) theirs b.at.place r e → In b theirs
last_settled theirs b bs j jt r e h = grind (arith, earlier theirs b bs j (ballot_at b.at.place r e), none_later (b ∷ bs) theirs j jt b.at.place r b.at.round e b.entry)

both_by_files : (own theirs : List Ballot) → Justified theirs own → Justified own theirs → (xs : List Entry)
    → IsAgreedByFiles own theirs xs → AllBoth own theirs 0 xs × ((r : ℕ) (e : Entry) → Both own theirs (length xs) r e → ⊥)
both_by_files [] theirs j jt xs h = rw h (tt, λ r e s. s.0)
both_by_files (b ∷ bs) theirs j jt xs h =
    let book = book_of (b ∷ bs) in
    let l = book_long b bs (in_sequence theirs (b ∷ bs) j) in
    let both = both_push (b ∷ bs) theirs 0 book b.entry b.at.place b.at.round in
    grind (arith, l, length-append book (b.entry ∷ []), both, book_agreed theirs b bs j, none_ahead theirs b bs j, last_settled theirs b bs j jt)

-- so the two files show the agreed list
pub agreed_by_files : (v : AllVotes) → AllJustified v → (xs : List Entry) → IsAgreedByFiles v.a v.b xs → IsAgreedList v xs
agreed_by_files v j xs h = grind (arith, both_by_files v.a v.b j.0 j.1 xs h, both_settled v j 0 xs)
