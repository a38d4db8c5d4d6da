-- Rings: the seals of a station, one shared with each of its peers. A desk's first peer is the other desk, and its others are
-- boards. A board's first peer is desk A, and all its others are desk B.
use Rattle.std.specs.Prelude.{◌≡◌, ◌&&◌, ℕ, zero, suc, Bool, false, true, None, Option, Some, List, [], ◌∷◌, ◌++◌, drop, if◌then◌else◌, map, nat_eq, not, replicate, slice_get, slice_index, slice_index_or, take}
use Rattle.agree_core.specs.declared.messages.Asker.{Asker}
use Rattle.seal.specs.Sealed.{IsSealed, covered, tag}
use Rattle.seal.specs.declared.carrier.TaggedMessage.{TaggedMessage}
use Rattle.seal.specs.declared.ring.Ring.{Ring}

-- the sender of a message, by the number in its bytes: 1 is desk A, 2 desk B, 3 a board
abbrev pub sender_in : List ℕ → ℕ
sender_in message = slice_index message 12

-- the message is a vote
abbrev pub is_vote : List ℕ → Bool
is_vote message = nat_eq (slice_index message 3) 1

abbrev pub is_desk : Asker → Bool
is_desk Asker.Board = false
is_desk desk = true

-- A station opens messages from the sender of this number by the seal that it shares with its first peer: a desk opens so a
-- desk's messages, its own too, and a board desk A's.
abbrev pub is_by_first : Asker → ℕ → Bool
is_by_first Asker.Board sender = nat_eq sender 1
is_by_first desk sender = not (nat_eq sender 3)

-- the seals that open them: the first peer's alone, or those of all other peers
abbrev pub seals_of : Ring → ℕ → List (List ℕ)
seals_of ring sender = if is_by_first ring.station sender then take 1 ring.seals else drop 1 ring.seals

-- the seals that open a message
abbrev pub seals_by : Ring → List ℕ → List (List ℕ)
seals_by ring message = seals_of ring (sender_in message)

-- bytes are the sealed form of a message by one of these seals
abbrev pub IsFormBy : List (List ℕ) → List ℕ → List ℕ → Type 0
IsFormBy seals message bytes =
    (i : ℕ) × ((seal : List ℕ) × (slice_get seals i ≡ Some seal) × IsSealed seal message bytes)

-- bytes are the sealed form of a message by a seal of its sender
abbrev pub IsForm : Ring → List ℕ → List ℕ → Type 0
IsForm ring message bytes = IsFormBy (seals_by ring message) message bytes

-- the seal of a datagram to a peer
abbrev pub seal_for : Ring → ℕ → List ℕ
seal_for ring peer = slice_index_or ring.seals peer []

-- a desk with a key for each pair gives boards a receipt of each vote: the tag of the vote for the other desk
abbrev pub gives_receipt : Ring → List ℕ → Bool
gives_receipt ring message = ring.is_of_pairs && is_desk ring.station && is_vote message

abbrev pub receipt_of : Ring → List ℕ → Option (List ℕ)
receipt_of ring message = if gives_receipt ring message then Some (tag (seal_for ring 0) message) else None

-- a message's tags, one for each peer: the first covers the message alone, all others the message and its receipt
abbrev pub tags_of : List (List ℕ) → List ℕ → Option (List ℕ) → List (List ℕ)
tags_of [] message receipt = []
tags_of (first ∷ others) message receipt = tag first message ∷ map (λ seal. tag seal (covered message receipt)) others

-- a message with its receipt and its tags
abbrev pub tagged : Ring → List ℕ → TaggedMessage
tagged ring message = record {
  message = message;
  receipt = receipt_of ring message;
  tags = tags_of ring.seals message (receipt_of ring message);
}

-- what a peer's tag covers, which goes to the peer with that tag: the message, and its receipt unless the peer is the first
abbrev pub covered_for : ℕ → TaggedMessage → List ℕ
covered_for zero sent = sent.message
covered_for (suc n) sent = covered sent.message sent.receipt

abbrev pub form_for : ℕ → TaggedMessage → List ℕ
form_for peer sent = covered_for peer sent ++ slice_index_or sent.tags peer []

-- a station's ring, with its seals, and whether each pair has a key of its own
abbrev pub ring_of : Asker → List (List ℕ) → Bool → Ring
ring_of station seals is_of_pairs = record { station = station; seals = seals; is_of_pairs = is_of_pairs }

-- the seals of a match, one for each pair of stations of which one hears the other's votes: both desks; desk A and each board;
-- desk B and each board
pub record Seals : Type 0 where
  pub desks : List ℕ
  pub a : ℕ → List ℕ
  pub b : ℕ → List ℕ

-- the seals of a desk: the one that it shares with the other desk, and those with four boards
abbrev pub desk_seals : List ℕ → (ℕ → List ℕ) → List (List ℕ)
desk_seals desks boards = desks ∷ boards 1 ∷ boards 2 ∷ boards 3 ∷ boards 4 ∷ []

-- the seals of a board: the one that it shares with desk A, and the one that it shares with desk B
abbrev pub board_seals : List ℕ → List ℕ → List (List ℕ)
board_seals a b = a ∷ replicate 4 b

-- the rings of the stations of such a match, with boards counted from 1; none has all seals
abbrev pub ring_of_a : Seals → Ring
ring_of_a seals = ring_of Asker.A (desk_seals seals.desks seals.a) true

abbrev pub ring_of_b : Seals → Ring
ring_of_b seals = ring_of Asker.B (desk_seals seals.desks seals.b) true

abbrev pub ring_of_board : Seals → ℕ → Ring
ring_of_board seals n = ring_of Asker.Board (board_seals (seals.a n) (seals.b n)) true
