-- What a sequence of votes has at a position.
use Rattle.std.proofs.Common.{◌≡◌, ◌≤◌, ℕ, zero, suc, List, [], ◌∷◌, Option, Some, None, refl, inr, arith}
use Rattle.std.specs.Prelude.{IfNone, IfSome}
use Rattle.std.proofs.lemmas.Bool.Decides.{nat_tests}
use Rattle.notation.specs.declared.entry.Entry.{Entry}
use Rattle.agree_core.specs.Ballots.{Ballot, In, IsSequence, ballot_at}
use Rattle.vote_store.proofs.SequenceLemmas.{earlier}
use Rattle.books.specs.DeskVotes.{entry_at}

-- a found entry is that of a vote
pub found_in : (votes : List Ballot) (place round : ℕ) (e : Entry) → entry_at votes place round ≡ Some e → In (ballot_at place round e) votes
found_in [] place round e f = absurd cc
found_in (b ∷ bs) place round e f = grind (arith, nat_tests, found_in bs place round e)

-- a position without a vote has no entry
pub none_at : (votes : List Ballot) (place round : ℕ) → ((e : Entry) → In (ballot_at place round e) votes → ⊥) → entry_at votes place round ≡ None
none_at [] place round none = refl
none_at (b ∷ bs) place round none = grind (arith, nat_tests, none b.entry, none_at bs place round (λ e i. none e (inr i)))

-- a vote is found at its position
pub some_at : (votes : List Ballot) → IsSequence votes → (place round : ℕ) (e : Entry) → In (ballot_at place round e) votes →
    entry_at votes place round ≡ Some e
some_at [] s place round e i = absurd i
some_at (b ∷ bs) s place round e i = grind (arith, nat_tests, earlier, some_at bs s.2 place round e)

-- the answer of looking up a position
pub is_entry_at : (votes : List Ballot) → IsSequence votes → (place round : ℕ) (o : Option Entry) → IfSome o (λ e. In (ballot_at place round e) votes) →
    IfNone o ((e : Entry) → In (ballot_at place round e) votes → ⊥) → o ≡ entry_at votes place round
is_entry_at votes s place round o f n = grind (arith, none_at, some_at)

-- after a round without a vote the next round has none
none_behind : (votes : List Ballot) → IsSequence votes → (place round : ℕ) → entry_at votes place round ≡ None → entry_at votes place (suc round) ≡ None
none_behind [] s place round none = refl
none_behind (b ∷ []) s place round none = grind (arith, nat_tests)
none_behind (b ∷ c ∷ cs) s place round none = grind (arith, nat_tests, none_behind (c ∷ cs) s.2 place round)

pub none_from : (votes : List Ballot) → IsSequence votes → (place round n : ℕ) → round ≤ n → entry_at votes place round ≡ None → entry_at votes place n ≡ None
none_from votes s place round zero le none = grind arith
none_from votes s place round (suc n) le none = grind (arith, none_from votes s place round n, none_behind votes s place n)

-- after a place without a vote the next place has none
none_next : (votes : List Ballot) → IsSequence votes → (place round : ℕ) → entry_at votes place 0 ≡ None → entry_at votes (suc place) round ≡ None
none_next [] s place round none = refl
none_next (b ∷ []) s place round none = grind (arith, nat_tests)
none_next (b ∷ c ∷ cs) s place round none =
    grind (arith, nat_tests, none_next (c ∷ cs) s.2 place round, none_next (c ∷ cs) s.2 place c.at.round, none_from (c ∷ cs) s.2 place 0 c.at.round)

pub none_after : (votes : List Ballot) → IsSequence votes → (place n : ℕ) → place ≤ n → entry_at votes place 0 ≡ None → entry_at votes n 0 ≡ None
none_after votes s place zero le none = grind arith
none_after votes s place (suc n) le none = grind (arith, none_after votes s place n, none_next votes s n 0)
