-- What passes at a sealed link: the opening of what its carrier carries.
use Rattle.std.specs.Prelude.{◌≡◌, ◌&&◌, ℕ, Bool, true, false, List, [], ◌∷◌, bytes_eq, length, slice_get, take, Some}
use Rattle.std.specs.List.{flat_map, list_any}
use Rattle.seal.specs.Rings.{IsForm, seals_by}
use Rattle.seal.specs.Sealed.{has_size, sealed, untagged}
use Rattle.seal.specs.declared.ring.Ring.{Ring}
use Rattle.links.specs.Passed.{Passed, Opened, Sent, Came}

-- the bytes are the sealed form of their first 48, a message, by a seal of its sender, with a receipt or without
abbrev pub opens : Ring → List ℕ → Bool
opens ring bytes =
    has_size bytes && list_any (λ seal. bytes_eq bytes (sealed seal (untagged bytes))) (seals_by ring (take 48 bytes))

-- the message of bytes that came, if they open, and nothing otherwise
abbrev pub came_open : Bool → List ℕ → List Passed
came_open true bytes = Came (take 48 bytes) ∷ []
came_open false bytes = []

abbrev pub opening_of : Ring → Passed → List Passed
opening_of ring (Sent to bytes) = Sent to (take 48 bytes) ∷ []
opening_of ring (Came bytes) = came_open (opens ring bytes) bytes
opening_of ring began = []

abbrev pub opening : Ring → List Passed → List Passed
opening ring carried = flat_map (opening_of ring) carried

-- a link is opened with this ring
abbrev pub opened : Ring → Passed
opened ring = Opened ring.station ring.seals ring.is_of_pairs

-- what passes at a link that is opened with this ring, over what its carrier carries
abbrev pub passing : Ring → List Passed → List Passed
passing ring carried = opened ring ∷ opening ring carried

-- bytes were brought whose opening is this message
abbrev pub WasBrought : Ring → List Passed → List ℕ → Type 0
WasBrought ring carried message =
    (bytes : List ℕ) × (length message ≡ 48) × IsForm ring message bytes
    × ((k : ℕ) × (slice_get carried k ≡ Some (Came bytes)))

-- each message that a sealed link gave was brought
abbrev pub GivenWasBrought : Type 0
GivenWasBrought =
    (ring : Ring) (carried : List Passed) (i : ℕ) (message : List ℕ)
    → slice_get (opening ring carried) i ≡ Some (Came message) → WasBrought ring carried message
