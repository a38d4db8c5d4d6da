-- What a desk keeps of its votes as it opens, casts and hears.
use Rattle.std.proofs.lemmas.Grind.{common_steps}
use Rattle.std.proofs.Common.{◌≡◌, ℕ, true, Some, None, IfSome, List, [], ◌∷◌, ◌++◌, length, sym, append-nil, append_assoc, arith}
use Rattle.std.proofs.lemmas.Bool.{or_left, or_right}
use Rattle.std.proofs.lemmas.List.{length-append}
use Rattle.notation.specs.declared.entry.Entry.{Entry}
use Rattle.notation.specs.Written.{IsEntry}
use Rattle.corrections.specs.Refusal.{book_refusal}
use Rattle.agree_core.specs.declared.{messages.DeskId.DeskId, messages.Vote.Vote, position.Position.Position}
use Rattle.agree_core.specs.declared.seat.{Heard.Heard, Settled.Settled}
use Rattle.agree_core.specs.Ballots.{Ballot}
use Rattle.agree_core.specs.Books.{AllTaken, Rules, book_of, seat_of, voted_list}
use Rattle.agree_core.specs.Desks.{book_after, book_heard}
use Rattle.agree_core.specs.Positions.{next_place, next_round}
use Rattle.agree_core.specs.Seats.{Casts, Hears, SeatState, waiting}
use Rattle.agree_core.proofs.FileBooks.{book_long}
use Rattle.vote_store.specs.Sequence.{comes_next, last_position}
use Rattle.vote_store.proofs.SequenceLemmas.{IsVotes, is_at-same}
use Rattle.desk.specs.inner.Kept.{IsCast, IsNext, newest}

pub record IsKept (n : ℕ) (book : List Entry) (seat : SeatState) (votes : List Ballot) : Type 0 where
  pub as_long : length book ≡ seat.position.place
  pub cast : IsCast n book seat votes
  pub next : IsNext seat votes
  pub noted : IfSome seat.theirs IsEntry

last_legal : {Why : Type 0} (rules : Rules Why) (book xs : List Entry) (e : Entry)
    → AllTaken rules book (xs ++ e ∷ []) → rules (book ++ xs) e ≡ None
last_legal rules book [] e t = rw append-nil t.0
last_legal rules book (x ∷ xs) e t = rw (sym (append_assoc book (x ∷ []) xs)) (last_legal rules (book ++ x ∷ []) xs e t.1)

-- the seat and the book that a file's votes lead to
pub opened_kept : (n : ℕ) (d : DeskId) (votes : List Ballot) → IsVotes votes → AllTaken (book_refusal n) [] (voted_list votes)
    → IsKept n (book_of votes) (seat_of d votes) votes
opened_kept n d votes fine taken = grind (arith, book_long, last_legal)

-- after a vote at this position, the next round or the next place may come
next_is : (p : Position) (votes : List Ballot) (e : Entry) → newest votes ≡ Some (record { at = p; entry = e })
    → (comes_next (next_place p) (last_position votes) ≡ true) × (comes_next (next_round p) (last_position votes) ≡ true)
next_is p votes e h = grind (arith, or_right, is_at-same, or_left)

-- both desks have voted, for this entry or not
module _ (n : ℕ) (book : List Entry) (s t : SeatState) (votes : List Ballot) (e : Entry) (long : length book ≡ s.position.place)
    (last : newest votes ≡ Some (record { at = s.position; entry = e })) where
  settled_kept : t ≡ waiting s.desk (next_place s.position) → IsKept n (book ++ e ∷ []) t votes
  settled_kept is = grind (arith, length-append, next_is)

  differed_kept : t ≡ waiting s.desk (next_round s.position) → IsKept n book t votes
  differed_kept is = grind (arith, next_is)

-- once a vote is cast and stored
pub cast_kept : (n : ℕ) (book : List Entry) (s t : SeatState) (votes : List Ballot) (e : Entry) (settled : Settled)
    → length book ≡ s.position.place → book_refusal n book e ≡ None → Casts s e settled t
    → IsKept n (book_after settled book e) t (record { at = s.position; entry = e } ∷ votes)
cast_kept n book s t votes e settled long legal c = grind (arith, common_steps, settled_kept, differed_kept)

-- once a vote is heard
pub heard_kept : (n : ℕ) (book : List Entry) (s t : SeatState) (votes : List Ballot) (v : Vote) (heard : Heard)
    → IsEntry v.entry → IsKept n book s votes → Hears s v heard t → IsKept n (book_heard heard book v.entry) t votes
heard_kept n book s t votes v Heard.Mine entry k h = rw h.1 k
heard_kept n book s t votes v Heard.Noted entry k h = grind arith
heard_kept n book s t votes v Heard.Agreed entry k h = settled_kept n book s t votes v.entry k.as_long (k.cast v.entry h.2).last h.3
heard_kept n book s t votes v Heard.Differ entry k h = differed_kept n book s t votes h.2.0 k.as_long (k.cast h.2.0 h.2.1).last h.3
heard_kept n book s t votes v heard entry k h = rw h.2 k

pub seat_desk : (d : DeskId) (votes : List Ballot) → (seat_of d votes).desk ≡ d
seat_desk d votes = grind arith

-- a seat stays with its desk
pub hears_desk : (s t : SeatState) (v : Vote) (heard : Heard) → Hears s v heard t → t.desk ≡ s.desk
hears_desk s t v heard h = grind arith

pub casts_desk : (s t : SeatState) (e : Entry) (settled : Settled) → Casts s e settled t → t.desk ≡ s.desk
casts_desk s t e settled h = grind arith

-- the book stays, unless both desks agree
heard_book : (heard : Heard) (book : List Entry) (e : Entry) → (heard ≡ Heard.Agreed → ⊥) → book_heard heard book e ≡ book
heard_book heard book e n = grind arith

pub cast_book : (settled : Settled) (book : List Entry) (e : Entry) → (settled ≡ Settled.Agreed → ⊥) → book ≡ book_after settled book e
cast_book settled book e n = grind arith

pub still_kept : (n : ℕ) (book : List Entry) (s t : SeatState) (votes : List Ballot) (v : Vote) (heard : Heard)
    → IsEntry v.entry → IsKept n book s votes → Hears s v heard t → (heard ≡ Heard.Agreed → ⊥) → IsKept n book t votes
still_kept n book s t votes v heard entry k h not_agreed =
    rw (heard_book heard book v.entry not_agreed) at (heard_kept n book s t votes v heard entry k h)
