-- Facts about the message that a station is given.
use Rattle.std.proofs.Common.{arith}
use Rattle.std.proofs.Common.{◌≡◌, ℕ, Some, List, [], ◌∷◌, length, None, inl, inr, refl}
use Rattle.std.specs.Prelude.{slice_get}
use Rattle.agree_core.specs.declared.messages.{Message.Message, Vote.Vote}
use Rattle.agree_core.specs.Ballots.{AllVotes}
use Rattle.agree_core.specs.Keeping.{Each, MessageFine}
use Rattle.headline.specs.Given.{IsGiven}
use Rattle.headline.proofs.BoardKeeping.{item_at}

-- a vote that is given was sent
pub given_vote : (sent : List Message) (n : ℕ) (v : Vote) → IsGiven sent n (Message.Vote v) → slice_get sent n ≡ Some (Message.Vote v)
given_vote sent n v h3 = grind arith

-- if a message with this number was sent, that message is given
pub given_there : (sent : List Message) (n : ℕ) (m there : Message) → slice_get sent n ≡ Some there → IsGiven sent n m → m ≡ there
given_there sent n m there e h5 = grind arith

-- the given message is fine if all sent messages are
pub given_fine : (v : AllVotes) (sent : List Message) (n : ℕ) (m : Message) → Each (MessageFine v) sent → IsGiven sent n m → MessageFine v m
given_fine v sent n m each h5 = grind (arith, item_at)

-- no message has the number of the next one
none_next : {X : Type 0} (xs : List X) → slice_get xs (length xs) ≡ None
none_next [] = refl
none_next (x ∷ xs) = none_next xs

-- a vote that was sent, or any ask, may be given
pub may_be_given : (sent : List Message) (m : Message) → ((v : Vote) → m ≡ Message.Vote v → (i : ℕ) × (slice_get sent i ≡ Some m)) → (i : ℕ) × IsGiven sent i m
may_be_given sent (Message.Vote v) f = let found = f v refl in (found.0, inl found.1)
may_be_given sent (Message.Ask q) f = (length sent, inr (none_next sent, (q, refl)))
