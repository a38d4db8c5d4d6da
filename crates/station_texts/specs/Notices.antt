-- What a board tells when it can't take something.
use Rattle.std.specs.Prelude.{ℕ, Bool, true, false, if◌then◌else◌, List, [], ◌∷◌, ◌++◌, codes, None, Some, Result, Ok, Err}
use Rattle.agree_core.specs.declared.seat.Heard.{Heard}
use Rattle.wire.specs.declared.what.What.{What}
use Rattle.board.specs.declared.{refusal.BoardRefusal.BoardRefusal, trouble.Why.Why}
use Rattle.board.specs.Troubles.{is_stopped_by, left_of, trouble_at}
use Rattle.station_texts.specs.Texts.{at_place, bad_text, unopened_line, unwarned, warned_after, warned_unopened}
use Rattle.station_texts.specs.declared.doubt.Evidence.{Evidence}
use Rattle.station_texts.specs.declared.notices.{Notice.Notice, Telling.Telling}
use Rattle.station_texts.specs.declared.notices.Notice.TheVariants.{Bytes, Unopened, TwoVotes, BadVotes, Parted, Apart}

-- the line printed for a notice
abbrev pub notice_text : Notice → List ℕ
notice_text (Bytes fault) = bad_text fault
notice_text Unopened = unopened_line
notice_text TwoVotes = codes "peer: two votes\n"
notice_text (BadVotes place) = at_place place (codes "refused 64 BadVotes: no later score is shown")
notice_text (Parted place) =
    at_place place (codes "is written anew: a desk's file lacks lines that this board has; no later score is shown")
notice_text (Apart place) = at_place place (codes "the desks told this board different lines")

-- nothing was told
abbrev pub untold : Telling
untold = record { warned = unwarned; trouble = None }

-- the board takes no further votes
abbrev pub is_stopped : Telling → Bool
is_stopped k = is_stopped_by k.trouble

-- these notices, followed by this one unless it was already told
abbrev pub noted : Bool → List Notice → Notice → List Notice
noted true notices notice = notices
noted false notices notice = notices ++ notice ∷ []

-- the notices after the answer to a datagram: between two votes that the board takes, at most one about datagrams that are no
-- message of the match and one about two votes of one desk; and one about refused votes
abbrev pub notices_after : Telling → List Notice → Result What BoardRefusal → List Notice
notices_after k notices (Ok (What.Bad fault)) = noted k.warned.of_bytes notices (Bytes fault)
notices_after k notices (Ok (What.Heard Heard.TwoVotes)) = noted k.warned.of_votes notices TwoVotes
notices_after k notices (Ok what) = notices
notices_after k notices (Err (BoardRefusal.BadVotes place)) = noted (is_stopped k) notices (BadVotes place)

-- the notices after a datagram that doesn't open: at most one between two votes that the board takes
abbrev pub notices_unopened : Telling → List Notice → List Notice
notices_unopened k notices = noted k.warned.of_seal notices Unopened

-- this trouble keeps the board from going on
abbrev pub with_trouble : Telling → ℕ → Why → Telling
with_trouble k place why = record k { trouble = Some (trouble_at place why) }

abbrev pub telling_unopened : Telling → Telling
telling_unopened k = record k { warned = warned_unopened k.warned }

-- this answer brings the board to another position: it has now heard both votes of its own
abbrev pub opens : What → Bool
opens (What.Heard Heard.Agreed) = true
opens (What.Heard Heard.Differ) = true
opens what = false

-- the state after that answer
abbrev pub telling_after : Telling → Result What BoardRefusal → Telling
telling_after k (Ok what) =
    record { warned = warned_after k.warned Evidence.Nothing what; trouble = if opens what then left_of k.trouble else k.trouble }
telling_after k (Err (BoardRefusal.BadVotes place)) = with_trouble k place Why.Refused
