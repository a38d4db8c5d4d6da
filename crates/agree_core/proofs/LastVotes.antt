-- The list by a desk's votes has the last vote of each place.
use Rattle.std.proofs.Common.{◌≡◌, ◌⊎◌, ℕ, ◌+◌, ◌<◌, ◌≤◌, Some, List, [], ◌∷◌, length, get_or, refl, ap, ◌∙◌, inl, inr, arith, length-append}
use Rattle.std.proofs.lemmas.List.{get_or_push}
use Rattle.std.proofs.lemmas.Option.{slice_get-get_or}
use Rattle.std.proofs.Math.ListN.{get_or-append}
use Rattle.notation.specs.declared.entry.Entry.{Entry}
use Rattle.agree_core.specs.Ballots.{Ballot, In, IsSequence}
use Rattle.agree_core.specs.Books.{book_of, voted_list}
use Rattle.agree_core.specs.Laws.{IsLastOfPlace, ListsLastVotes}
use Rattle.agree_core.proofs.FileBooks.{book_closed, book_kept, book_long}

-- no vote is for a later position than the last vote
not_past : (b : Ballot) (bs : List Ballot) → IsSequence (b ∷ bs) → (c : Ballot) → In c (b ∷ bs)
    → (c.at.place < b.at.place) ⊎ ((c.at.place ≡ b.at.place) × (c.at.round ≤ b.at.round))
not_past b bs s c (inl e) = grind arith
not_past b [] s c (inr i) = absurd i
not_past b (a ∷ rest) s c (inr i) = grind (arith, not_past a rest s.2 c i)

voted_long : (b : Ballot) (bs : List Ballot) → IsSequence (b ∷ bs) → length (voted_list (b ∷ bs)) ≡ b.at.place + 1
voted_long b bs s = omega (arith, book_long b bs s, length-append (book_of (b ∷ bs)) (b.entry ∷ []))

-- the place of an earlier vote is in the book
in_book : (b : Ballot) (bs : List Ballot) → IsSequence (b ∷ bs) → (place : ℕ) (d : Entry) → place < b.at.place
    → get_or (voted_list (b ∷ bs)) place d ≡ get_or (book_of (b ∷ bs)) place d
in_book b bs s place d h = get_or-append (book_of (b ∷ bs)) (b.entry ∷ []) d place (omega (arith, book_long b bs s))

last_listed : (b : Ballot) (bs : List Ballot) → IsSequence (b ∷ bs) → (c : Ballot) → IsLastOfPlace (b ∷ bs) c → (d : Entry) → get_or (voted_list (b ∷ bs)) c.at.place d ≡ c.entry
last_listed b bs s c (inl e, last) d = grind (arith, book_long, get_or_push)
last_listed b [] s c (inr i, last) d = absurd i
last_listed b (a ∷ rest) s c (inr i, last) d =
    let before = last_listed a rest s.2 c (i, λ x k. last x (inr k)) d in
    let book = book_of (a ∷ rest) in
    let here = in_book b (a ∷ rest) s c.at.place d in
    grind (arith, before, not_past a rest s.2 c i, last b (inl refl), book_kept b a rest book, book_closed b a rest book, here, in_book a rest s.2 c.at.place d)

pub lists_last_votes : (votes : List Ballot) → IsSequence votes → ListsLastVotes votes
lists_last_votes [] s b h = absurd h.0
lists_last_votes (a ∷ rest) s b h =
    let long = voted_long a rest s in
    let within : b.at.place < length (voted_list (a ∷ rest)) = grind (arith, long, not_past a rest s b h.0) in
    slice_get-get_or (voted_list (a ∷ rest)) b.at.place b.entry within ∙ ap Some (last_listed a rest s b h b.entry)
