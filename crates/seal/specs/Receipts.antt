-- The receipts that a board with a key for each pair keeps of desks' votes: the tag that came with each vote, which its desk
-- made of it for the other desk.
use Rattle.std.specs.Prelude.{◌≡◌, ◌∷◌, ◌++◌, ◌≢◌, ◌&&◌, ℕ, Bool, false, true, None, Option, Some, List, [], bytes_eq, drop, if◌then◌else◌, is_some, length, nat_eq, nat_lt, not, replicate, take}
use Rattle.indexmap.specs.IndexMap.{IndexMap, get, spare}
use Rattle.links.specs.Passed.{Passed, Came}
use Rattle.links.specs.declared.link.Taken.{Taken}
use Rattle.seal.specs.Rings.{is_desk, sender_in, tagged}
use Rattle.seal.specs.declared.carrier.TaggedMessage.{TaggedMessage}
use Rattle.seal.specs.declared.receipts.Receipts.{Receipts}
use Rattle.seal.specs.declared.receipts.TheConstants.{MOST_RECEIPTS}
use Rattle.seal.specs.declared.ring.Ring.{Ring}

module _ {S : Type 0} where
  -- the receipt that is kept for a message of one desk
  abbrev pub kept_in : IndexMap (List ℕ) (List ℕ) S → List ℕ → Option (List ℕ)
  kept_in kept message = get bytes_eq kept message

  -- the message has no receipt yet, and there is room for one more
  abbrev pub is_new_in : IndexMap (List ℕ) (List ℕ) S → List ℕ → Bool
  is_new_in kept message = nat_lt 0 (spare kept) && not (is_some (kept_in kept message))

  -- then its receipt is kept for it, and nothing else changes
  abbrev pub IsKeptIn : IndexMap (List ℕ) (List ℕ) S → IndexMap (List ℕ) (List ℕ) S → List ℕ → List ℕ → Type 0
  IsKeptIn old new message receipt =
      (m : List ℕ) → kept_in new m ≡ (if is_new_in old message && bytes_eq message m then Some receipt else kept_in old m)

-- the receipt kept for a message: desk A's are kept apart from desk B's, and a board's messages have none
abbrev pub kept_for : Receipts → List ℕ → Option (List ℕ)
kept_for receipts message =
    if nat_eq (sender_in message) 1 then kept_in receipts.a message
    else (if nat_eq (sender_in message) 2 then kept_in receipts.b message else None)

-- a message came with a receipt, which is kept among those of its desk
abbrev pub IsKept : Receipts → Receipts → List ℕ → List ℕ → Type 0
IsKept old new message receipt =
    (sender_in message ≡ 1 → IsKeptIn old.a new.a message receipt) × (sender_in message ≢ 1 → new.a ≡ old.a)
    × (sender_in message ≡ 2 → IsKeptIn old.b new.b message receipt) × (sender_in message ≢ 2 → new.b ≡ old.b)

-- a board with a key for each pair keeps receipts
abbrev pub keeps : Ring → Bool
keeps ring = ring.is_of_pairs && not (is_desk ring.station)

-- the least number of receipts of each desk that there is room for
abbrev pub room_of : Ring → ℕ
room_of ring = if keeps ring then MOST_RECEIPTS else 0

-- these bytes, which came and open, have a receipt that the station keeps
abbrev pub is_for_keeping : Ring → List ℕ → Bool
is_for_keeping ring bytes = keeps ring && nat_eq (length bytes) 80

-- the receipts kept after these bytes came
abbrev pub IsKeptOf : Ring → Receipts → Receipts → List ℕ → Type 0
IsKeptOf ring old new bytes =
    (is_for_keeping ring bytes ≡ true → IsKept old new (take 48 bytes) (take 16 (drop 48 bytes)))
    × (is_for_keeping ring bytes ≡ false → new ≡ old)

-- the receipts kept after a take, by its result: a datagram's bytes were the last that came
abbrev pub KeepsOf : Ring → Taken → Receipts → Receipts → List Passed → List Passed → Type 0
KeepsOf ring (Taken.Datagram count) old new before after =
    (bytes : List ℕ) × (after ≡ before ++ Came bytes ∷ []) × IsKeptOf ring old new bytes
KeepsOf ring missed old new before after = new ≡ old

-- a message with this receipt as its tag for every peer
abbrev pub handed_back : List ℕ → List ℕ → TaggedMessage
handed_back message receipt = record { message = message; receipt = None; tags = replicate 5 receipt }

-- what is sent for a message: with the receipt that is kept for it, if any, instead of the station's own tags
abbrev pub outgoing_by : Option (List ℕ) → Ring → List ℕ → TaggedMessage
outgoing_by None ring message = tagged ring message
outgoing_by (Some receipt) ring message = handed_back message receipt

abbrev pub outgoing : Ring → Receipts → List ℕ → TaggedMessage
outgoing ring receipts message = outgoing_by (kept_for receipts message) ring message
