-- What a datagram shows of lines that the file of either desk lacks.
use Rattle.std.specs.Prelude.{ℕ, Bool, true, false, ◌&&◌, ◌||◌, not, is_some, if◌then◌else◌, List, [], ◌∷◌, Option, Some, slice_index}
use Rattle.std.specs.Str.{bytes_eq}
use Rattle.notation.specs.Code.{code}
use Rattle.agree_core.specs.declared.{messages.Asker.Asker, messages.DeskId.DeskId, position.Position.Position, seat.Heard.Heard}
use Rattle.agree_core.specs.declared.messages.DeskId.TheVariants.{A, B}
use Rattle.agree_core.specs.Ballots.{Ballot}
use Rattle.agree_core.specs.LostLines.{is_another, is_at, is_before, is_in_reach, is_passed_over}
use Rattle.agree_core.specs.Seats.{SeatState}
use Rattle.live.specs.declared.lost_lines.Bearing.{Bearing}
use Rattle.station_texts.specs.declared.doubt.Evidence.{Evidence}
use Rattle.station_texts.specs.declared.doubt.Evidence.TheVariants.{Nothing, OtherLacks, Ahead, Unkept, Level}
use Rattle.wire.specs.declared.what.What.{What}
use Rattle.wire.specs.Layout.{body_in}
use Rattle.wire.specs.inner.Fields.{asker_numbered, place_in, round_in}

-- the position of the message in a datagram
abbrev pub position_in : List ℕ → Position
position_in bytes = record { place = place_in bytes; round = round_in bytes }

-- who asks, if the datagram is an ask
abbrev pub asker_in : List ℕ → Option Asker
asker_in bytes = asker_numbered (slice_index bytes 12)

-- the asker is the other desk
abbrev pub is_other : DeskId → Option Asker → Bool
is_other A (Some Asker.B) = true
is_other B (Some Asker.A) = true
is_other d asker = false

-- An ask of the other desk shows that its file lacks lines, if this desk has passed over the position asked for, and that it
-- isn't ahead, if it asks for this desk's position. An ask for a later position shows nothing: a window asks for places ahead.
-- A board's ask shows nothing: whoever keeps a board may ask for anything.
abbrev pub asked : Bearing → Evidence
asked b = if b.passed_over then OtherLacks else (if b.is_level then Level else Nothing)

-- The own vote isn't cast at this position: it is the desk's position and has no vote yet, or it is a later one.
abbrev pub is_uncast : SeatState → Position → Bool
is_uncast s at = not (is_before at s.position) && not (is_at at s.position && is_some s.mine)

-- the last vote is for this position, but for another entry than the one with this code
abbrev pub is_other_last : List Ballot → Position → List ℕ → Bool
is_other_last [] at entry = false
is_other_last (b ∷ bs) at entry = is_at b.at at && not (bytes_eq entry (code b.entry))

-- The desk's own vote for this position, and the entry with this code, isn't among its votes: its file lacks that vote.
abbrev pub is_unkept : SeatState → List Ballot → Position → List ℕ → Bool
is_unkept s votes at entry = is_uncast s at || is_other_last votes at entry

-- By the answer to it, a vote shows that the other's file lacks lines if it isn't the one by which this desk went on; and that
-- this desk's file lacks lines if its position isn't in reach, or if it is a vote of this desk that its file hasn't.
abbrev pub evidence_of : Bearing → What → Evidence
evidence_of b (What.Heard Heard.Old) = if b.another then OtherLacks else Nothing
evidence_of b (What.Heard Heard.Mine) = if b.unkept then Unkept else Nothing
evidence_of b (What.Heard Heard.Ahead) = if b.in_reach then Nothing else Ahead
evidence_of b What.Asked = asked b
evidence_of b what = Nothing

-- what a datagram shows at a desk with this seat and these votes
abbrev pub bearing_of : SeatState → List Ballot → List ℕ → Bearing
bearing_of s votes bytes = record {
  another = is_another s votes (position_in bytes) (body_in bytes);
  unkept = is_unkept s votes (position_in bytes) (body_in bytes);
  passed_over = is_passed_over s votes (position_in bytes) && is_other s.desk (asker_in bytes);
  in_reach = is_in_reach s (position_in bytes);
  is_level = is_at (position_in bytes) s.position && is_other s.desk (asker_in bytes);
}

abbrev pub evidence : SeatState → List Ballot → List ℕ → What → Evidence
evidence s votes bytes what = evidence_of (bearing_of s votes bytes) what
