-- The premise on the network, for a station that takes only sealed datagrams: what each pair's seal says of the bytes that
-- come.
use Rattle.std.specs.Prelude.{◌≡◌, ℕ, Some, List, length, slice_get}
use Rattle.agree_core.specs.declared.messages.{DeskId.DeskId, Message.Message, Vote.Vote}
use Rattle.agree_core.specs.declared.messages.DeskId.TheVariants.{A, B}
use Rattle.wire.specs.Layout.{Says}
use Rattle.seal.specs.Rings.{Seals, ring_of_a, ring_of_b, seals_by}
use Rattle.seal.specs.Sealed.{IsSealed}
use Rattle.seal.specs.Unforged.{IsUnforged}
use Rattle.seal.specs.declared.ring.Ring.{Ring}
use Rattle.live.specs.Boards as boards
use Rattle.live.specs.Boards.{BoardCall}
use Rattle.live.specs.Desks as desks
use Rattle.live.specs.Desks.{DeskCall}

-- If the message reads as a vote of the match, it is the opening of received bytes, by a seal that this station shares with
-- their sender; and if these open by that seal, one of the stations had sealed them with it before. Asks need no such thing:
-- anyone may make them up.
abbrev pub IsAuthentic : Ring → ℕ → List Message → List ℕ → Type 0
IsAuthentic ring game sent message =
    (v : Vote) → Says game message (Message.Vote v)
    → (bytes : List ℕ) × (length message ≡ 48) × ((i : ℕ) × ((seal : List ℕ)
    × (slice_get (seals_by ring message) i ≡ Some seal) × IsSealed seal message bytes
    × IsUnforged seal game sent bytes))

-- this holds of the message that a call is given, if any
abbrev pub DeskAuthentic : Ring → ℕ → List Message → DeskCall → Type 0
DeskAuthentic ring game sent (desks.Given message what) = IsAuthentic ring game sent message
DeskAuthentic ring game sent call = Unit {0}

abbrev pub BoardAuthentic : Ring → ℕ → List Message → BoardCall → Type 0
BoardAuthentic ring game sent (boards.Given message answer) = IsAuthentic ring game sent message
BoardAuthentic ring game sent (boards.Parted message back) = IsAuthentic ring game sent message
BoardAuthentic ring game sent call = Unit {0}

-- the ring of a desk in a match of these seals
abbrev pub ring_of_desk : Seals → DeskId → Ring
ring_of_desk seals A = ring_of_a seals
ring_of_desk seals B = ring_of_b seals
