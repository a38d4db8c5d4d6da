-- Each vote is sealed for each hearer, and opens there, by the seal of that pair.
use Rattle.std.specs.Prelude.{◌≡◌, ◌<◌, ℕ, zero, suc, Option, None, Some, List, [], ◌∷◌, length, replicate}
use Rattle.agree_core.specs.declared.messages.Message.{Message}
use Rattle.wire.specs.Layout.{sender, written}
use Rattle.seal.specs.Receipts.{handed_back}
use Rattle.seal.specs.Rings.{Seals, form_for, receipt_of, ring_of_a, ring_of_b, ring_of_board, seal_for, seals_by, sender_in, tagged}
use Rattle.seal.specs.Sealed.{covered, sealed}
use Rattle.seal.specs.declared.ring.Ring.{Ring}

-- the receipt that a message has for a peer
abbrev pub receipt_for : ℕ → Ring → List ℕ → Option (List ℕ)
receipt_for zero ring message = None
receipt_for (suc n) ring message = receipt_of ring message

-- a peer is sent the message, with the receipt for that peer, sealed by the peer's seal
abbrev pub EachHasItsForm : Type 0
EachHasItsForm =
    (ring : Ring) (peer : ℕ) (message : List ℕ) → length message ≡ 48 → peer < length ring.seals
    → form_for peer (tagged ring message) ≡ sealed (seal_for ring peer) (covered message (receipt_for peer ring message))

-- the sender in a message's bytes is a vote's desk, or who asks
abbrev pub EachNamesItsSender : Type 0
EachNamesItsSender = (game : ℕ) (m : Message) → sender_in (written game m) ≡ sender m

-- the seals by which stations seal for each other
pub record SealsByPair (seals : Seals) : Type 0 where
  pub a_for_b : seal_for (ring_of_a seals) 0 ≡ seals.desks
  pub a_for_board : (n : ℕ) → n < 4 → seal_for (ring_of_a seals) (suc n) ≡ seals.a (suc n)
  pub b_for_a : seal_for (ring_of_b seals) 0 ≡ seals.desks
  pub b_for_board : (n : ℕ) → n < 4 → seal_for (ring_of_b seals) (suc n) ≡ seals.b (suc n)
  pub board_for_a : (n : ℕ) → seal_for (ring_of_board seals n) 0 ≡ seals.a n
  pub board_for_b : (n : ℕ) → seal_for (ring_of_board seals n) 1 ≡ seals.b n

-- the seals that a desk shares with boards
abbrev pub of_boards : (ℕ → List ℕ) → List (List ℕ)
of_boards shared = shared 1 ∷ shared 2 ∷ shared 3 ∷ shared 4 ∷ []

-- The seals that open a message, by its sender's number. A message that a board hands back to a desk has that desk's own
-- number: it opens by the seal of both desks, which no board has. What opens at a board as a desk's vote has a seal that no
-- other board has.
pub record OpensByPair (seals : Seals) (message : List ℕ) : Type 0 where
  pub b_at_a : sender_in message ≡ 2 → seals_by (ring_of_a seals) message ≡ seals.desks ∷ []
  pub a_at_b : sender_in message ≡ 1 → seals_by (ring_of_b seals) message ≡ seals.desks ∷ []
  pub a_at_board : (n : ℕ) → sender_in message ≡ 1 → seals_by (ring_of_board seals n) message ≡ seals.a n ∷ []
  pub b_at_board : (n : ℕ) → sender_in message ≡ 2 → seals_by (ring_of_board seals n) message ≡ replicate 4 (seals.b n)
  pub board_at_a : sender_in message ≡ 3 → seals_by (ring_of_a seals) message ≡ of_boards seals.a
  pub board_at_b : sender_in message ≡ 3 → seals_by (ring_of_b seals) message ≡ of_boards seals.b
  pub own_at_a : sender_in message ≡ 1 → seals_by (ring_of_a seals) message ≡ seals.desks ∷ []
  pub own_at_b : sender_in message ≡ 2 → seals_by (ring_of_b seals) message ≡ seals.desks ∷ []

-- If a board hands a vote back with the receipt that came with it, it sends every peer what the vote's desk sealed for the
-- other desk: so it opens at the desk.
pub record HandedBackIsTheDesks (seals : Seals) (message receipt : List ℕ) (peer : ℕ) : Type 0 where
  pub of_a : receipt_of (ring_of_a seals) message ≡ Some receipt → form_for peer (handed_back message receipt) ≡ sealed seals.desks message
  pub of_b : receipt_of (ring_of_b seals) message ≡ Some receipt → form_for peer (handed_back message receipt) ≡ sealed seals.desks message
