-- What a desk's scorer is told.
use Rattle.std.specs.Prelude.{◌≡◌, ◌<◌, ◌≤◌, ◌↔◌, ℕ, ◌==◌, ◌||◌, Bool, true, false, if◌then◌else◌, nat_le, nat_lt, is_some, Option, Some, None, List, [], ◌++◌, slice_get, codes, decimal}
use Rattle.arrayvec.specs.ArrayString.{ArrayString}
use Rattle.notation.specs.declared.entry.{Entry.Entry, Plain.Plain, TheConstants.PLACES}
use Rattle.notation.specs.declared.entry.Entry.TheVariants.{Write}
use Rattle.notation.specs.Written.{text_of}
use Rattle.ball_laws.specs.History.{History, last_called_over}
use Rattle.ball_laws.specs.Over.{counting}
use Rattle.match_laws.specs.History.{begun}
use Rattle.match_laws.specs.Figures.{overs}
use Rattle.match_laws.specs.Result.{current, outcome}
use Rattle.corrections.specs.declared.refusal.Refusal.TheVariants.{Later}
use Rattle.corrections.specs.CleanList.{history_of}
use Rattle.agree_core.specs.declared.{position.Position.Position, position.TheConstants.ROUNDS, seat.Settled.Settled, seat.Heard.Heard}
use Rattle.agree_core.specs.Positions.{InRange}
use Rattle.wire.specs.Fault.{number_of as wire_number, name_of as wire_name}
use Rattle.wire.specs.declared.{fault.WireFault.WireFault, what.What.What}
use Rattle.desk.specs.Refusal.{number_of, name_of}
use Rattle.desk.specs.declared.refusal.Refusal.{Refusal}
use Rattle.cards.specs.Sheet.{Sheet}
use Rattle.changes.specs.Before.{item_with}
use Rattle.changes.specs.Text.{last_changes}
use Rattle.score_rows.specs.Row.{called_note, result_part, row}
use Rattle.score_rows.specs.OverCheck.{over_check}
use Rattle.screen.specs.Both.{both_cards, cards_number}
use Rattle.book_rows.specs.Listing.{listing, range}
use Rattle.book_rows.specs.OverEntries.{over_by_side, over_last}
use Rattle.screen.specs.Waiting.{who_waits}
use Rattle.screen.specs.Sides.{both_sides}
use Rattle.score_rows.specs.Limited.{bowlers}
use Rattle.screen.specs.Help.{help, help_on}
use Rattle.screen.specs.Sentences.{of_desk}
use Rattle.screen.specs.declared.word.Word.{Word}
use Rattle.station_texts.specs.declared.{doubt.Doubt.Doubt, doubt.Evidence.Evidence, reminder.Reminder.Reminder, said.Said.Said, warned.Warned.Warned}
use Rattle.station_texts.specs.Doubts.{doubt_after, doubt_text, doubted_text, dismissed, going_text, holds_up}
use Rattle.station_texts.specs.Laters.{later_numbers, later_words}
use Rattle.station_texts.specs.Planning.{planned_text}
use Rattle.station_texts.specs.Questions.{explained, numbered, unclear_text, who_may}

-- the entry is the umpire's call of over
abbrev pub is_over : Entry → Bool
is_over (Write Plain.Over) = true
is_over e = false

-- a place, and words about it
abbrev pub at_place : ℕ → List ℕ → List ℕ
at_place place words = decimal place ++ codes " " ++ words ++ codes "\n"

-- an entry that was agreed at this place, with the history after it: how many overs are called by then, and the check of the
-- over, or how the match stands
abbrev pub over_called : History → List ℕ
over_called h = if begun h == 0 then [] else codes " " ++ decimal (overs h (current h))

abbrev pub agreed_line : ℕ → Entry → List ℕ
agreed_line place e = decimal place ++ codes " agreed: " ++ text_of e

-- after an over: how many of its deliveries count if not six, and the result if the match is decided
abbrev pub over_agreed : Sheet → ℕ → ℕ → History → Entry → List ℕ
over_agreed sheet innings place h e =
    agreed_line place e ++ over_called h ++ called_note (counting (last_called_over h))
    ++ result_part sheet (outcome innings h) ++ codes "\n" ++ over_check sheet h

abbrev pub play_agreed : Sheet → ℕ → ℕ → History → Entry → List ℕ
play_agreed sheet innings place h e = agreed_line place e ++ codes "\n" ++ row sheet innings h

abbrev pub agreed_entry : Sheet → ℕ → ℕ → History → Entry → List ℕ
agreed_entry sheet innings place h e =
    if is_over e then over_agreed sheet innings place h e else play_agreed sheet innings place h e

-- the entry at the place is agreed, if the book has one there
abbrev pub agreed_at : Sheet → ℕ → ℕ → History → Option Entry → List ℕ
agreed_at sheet innings place h None = []
agreed_at sheet innings place h (Some e) = agreed_entry sheet innings place h e

-- also what a `fix` or a `late` there has changed
abbrev pub agreed : Sheet → ℕ → ℕ → List Entry → List ℕ
agreed sheet innings place book =
    agreed_at sheet innings place (history_of book) (slice_get book place) ++ last_changes sheet innings book

abbrev pub refused_text : Refusal → List ℕ
refused_text Refusal.Failed = []
refused_text Refusal.Device = []
refused_text why = explained (codes "refused") (number_of why) (name_of why) (of_desk why)

abbrev pub refused_entry : List Entry → Entry → Refusal → List ℕ
refused_entry book e (Refusal.Book (Later place why)) =
    later_numbers place why ++ later_words place (item_with book e place) why
refused_entry book e why = refused_text why

-- the scorers differ at a place, with both entries if they are known; they are, once both votes are stored
abbrev pub both_lines : Entry → Entry → List ℕ
both_lines own other = codes "differs: you " ++ text_of own ++ codes ",\n  the other " ++ text_of other

abbrev pub differs_text : ℕ → Option Entry → Option Entry → List ℕ
differs_text place (Some own) (Some other) = at_place place (both_lines own other)
differs_text place own other = at_place place (codes "differs")

-- the pending entry, in full
abbrev pub pending : ℕ → Entry → List ℕ
pending place e = at_place place (codes "pending: " ++ text_of e)

-- the outcome of a vote for entry e; `other` is the other scorer's vote, if it was noted before
abbrev pub settled_text : Sheet → ℕ → ℕ → Option Entry → List Entry → Entry → Settled → List ℕ
settled_text sheet innings place other book e Settled.Pending = pending place e
settled_text sheet innings place other book e Settled.Agreed = agreed sheet innings place book
settled_text sheet innings place other book e Settled.Differ = differs_text place (Some e) other

-- why no vote can be cast at a position, whatever the scorer types: all places of the book are used up, or all rounds of this
-- place
abbrev pub why_full : Position → Option Refusal
why_full at =
    if nat_le PLACES at.place then Some Refusal.PlacesFull
    else if nat_le ROUNDS at.round then Some Refusal.RoundsFull
    else None

-- this is told exactly where every penned entry would be refused for that reason, if the own vote isn't cast
pub record TellsWhyFull (at : Position) : Type 0 where
  pub places : (why_full at ≡ Some Refusal.PlacesFull) ↔ (PLACES ≤ at.place)
  pub rounds : (why_full at ≡ Some Refusal.RoundsFull) ↔ ((at.place < PLACES) × (ROUNDS ≤ at.round))
  pub room : (why_full at ≡ None) ↔ InRange at

-- a position without the desk's own vote: no vote can be cast there, or the scorers differed, or it is simply next
abbrev pub open_text : Position → Option Refusal → List ℕ
open_text at (Some why) = at_place at.place (of_desk why)
open_text at None = at_place at.place (if nat_lt 0 at.round then codes "differs" else codes "next")

abbrev pub place_text : Position → Option Entry → List ℕ
place_text at (Some e) = pending at.place e
place_text at None = open_text at (why_full at)

-- the line must begin with `again`, shown so if it fits
abbrev pub with_again : ℕ → List ℕ → List ℕ
with_again place line = decimal place ++ codes " differs: begin the line with again: again " ++ line ++ codes "\n"

abbrev pub ask_again : ℕ → Option ArrayString → List ℕ
ask_again place None = at_place place (codes "differs: begin the line with again")
ask_again place (Some line) = with_again place line.bytes

-- a line without `again` after the scorers differed: `again` is asked for, unless no vote can be cast
abbrev pub again_text : Position → Option ArrayString → Option Refusal → List ℕ
again_text at line (Some why) = refused_text why
again_text at line None = ask_again at.place line

-- where a desk stands, told as it begins and when its scorer asks
abbrev pub greeting : Sheet → ℕ → List Entry → Position → Option Entry → List ℕ
greeting sheet innings book at own = row sheet innings (history_of book) ++ place_text at own

-- the other has written its vote of a place; the other desk isn't heard; it is heard again
abbrev pub writing : ℕ → List ℕ
writing place = at_place place (codes "the other has written")

abbrev pub silence : List ℕ
silence = codes "the other desk isn't heard\n"

abbrev pub reminder_text : ℕ → Reminder → List ℕ
reminder_text place Reminder.HasWritten = writing place
reminder_text place Reminder.IsMissed = silence
reminder_text place Reminder.IsHeard = codes "the other desk is heard again\n"

-- what is known of the other desk when the scorer asks: it has written, if its vote is noted and the own one isn't cast; it
-- isn't heard, if that was told and still holds
abbrev pub is_waited_for : Option Entry → Option Entry → Bool
is_waited_for own other = if is_some own then false else is_some other

abbrev pub other_text : ℕ → Bool → List ℕ
other_text place waited = if waited then writing place else []

abbrev pub silence_text : Bool → List ℕ
silence_text silent = if silent then silence else []

-- where the desk stands, what is known of the other desk, and whether this desk doubts its file
abbrev pub standing : Sheet → ℕ → List Entry → Position → Option Entry → Bool → Warned → List ℕ
standing sheet innings book at own waited warned =
    greeting sheet innings book at own ++ other_text at.place waited ++ silence_text warned.of_silence
    ++ doubted_text warned.doubt

-- a desk that doubts its file casts no vote
abbrev pub withheld : ℕ → List ℕ
withheld place = at_place place (codes "isn't written: this file lacks lines; put the right file back, or type go on")

-- what is shown for a word; nothing here for `plan`, which has `Planning`
abbrev pub word_text : Sheet → ℕ → Position → Option Entry → Bool → Warned → List Entry → Word → List ℕ
word_text sheet innings at own waited warned book Word.Where = standing sheet innings book at own waited warned
word_text sheet innings at own waited warned book (Word.Entries most) = listing most book
word_text sheet innings at own waited warned book (Word.Range first last) = range first last book
word_text sheet innings at own waited warned book (Word.Over number) = over_last sheet book number
word_text sheet innings at own waited warned book (Word.OverOf number side which) = over_by_side sheet book number side which
word_text sheet innings at own waited warned book Word.Total = over_check sheet (history_of book)
word_text sheet innings at own waited warned book Word.Cards = both_cards sheet (history_of book)
word_text sheet innings at own waited warned book (Word.CardsOf number) = cards_number sheet (history_of book) number
word_text sheet innings at own waited warned book Word.Sides = both_sides sheet
word_text sheet innings at own waited warned book Word.Bowlers = bowlers sheet (history_of book)
word_text sheet innings at own waited warned book Word.Waiting = who_waits sheet (history_of book)
word_text sheet innings at own waited warned book Word.Plan = []
word_text sheet innings at own waited warned book Word.GoOn = going_text (holds_up warned.doubt)
word_text sheet innings at own waited warned book Word.Forms = help
word_text sheet innings at own waited warned book (Word.More topic) = help_on topic

-- the answer to a line at this position: with the own and the other desk's vote there before the line, what was told of a peer
-- before, and the book after it
abbrev pub said_text : Sheet → ℕ → Position → Option Entry → Option Entry → Warned → List Entry → Said → List ℕ
said_text sheet innings at own other warned book Said.Quit = []
said_text sheet innings at own other warned book (Said.Asks word) =
    word_text sheet innings at own (is_waited_for own other) warned book word
said_text sheet innings at own other warned book (Said.Plan planned) = planned_text sheet book planned
said_text sheet innings at own other warned book (Said.Unclear unclear) =
    unclear_text sheet unclear ++ who_may sheet (history_of book) unclear
said_text sheet innings at own other warned book (Said.SayAgain line) = again_text at line (why_full at)
said_text sheet innings at own other warned book Said.NoneDiffers =
    at_place at.place (codes "doesn't differ: type the line without again")
said_text sheet innings at own other warned book Said.Waiting = refused_text Refusal.Waiting
said_text sheet innings at own other warned book (Said.Refused e why) = refused_entry book e why
said_text sheet innings at own other warned book Said.Withheld = withheld at.place
said_text sheet innings at own other warned book (Said.Penned e settled) =
    settled_text sheet innings at.place other book e settled

-- a warning about a peer, unless it was already told
abbrev pub warning : Bool → List ℕ → List ℕ
warning false text = text
warning true text = []

-- why a datagram is no message of the match
abbrev pub bad_text : WireFault → List ℕ
bad_text fault = numbered (codes "peer:") (wire_number fault) (wire_name fault)

-- told of a datagram that doesn't open
abbrev pub unopened_line : List ℕ
unopened_line = codes "peer: another sheet or another key\n"

abbrev pub unopened_text : Warned → List ℕ
unopened_text warned = warning warned.of_seal unopened_line

-- the other desk's file lacks lines, if a message shows it
abbrev pub loss_line : List ℕ
loss_line = codes "the other desk's file lacks lines that this one has: have the right file put back\n"

-- also that this desk's file lacks lines, or doesn't after all
abbrev pub shown_text : Warned → Evidence → List ℕ
shown_text warned Evidence.OtherLacks = warning warned.of_lines loss_line
shown_text warned evidence = doubt_text warned.doubt evidence

-- told of a vote received at this place: with the own vote before it, the entry received, the book after it, and what the vote
-- shows of both desks' files
abbrev pub heard_text : Sheet → ℕ → ℕ → Option Entry → Option Entry → List Entry → Warned → Evidence → Heard → List ℕ
heard_text sheet innings place own other book warned evidence Heard.Noted = []
heard_text sheet innings place own other book warned evidence Heard.Agreed = agreed sheet innings place book
heard_text sheet innings place own other book warned evidence Heard.Differ = differs_text place own other
heard_text sheet innings place own other book warned evidence Heard.Mine = shown_text warned evidence
heard_text sheet innings place own other book warned evidence Heard.TwoVotes = warning warned.of_votes (codes "peer: two votes\n")
heard_text sheet innings place own other book warned evidence Heard.Old = shown_text warned evidence
heard_text sheet innings place own other book warned evidence Heard.Ahead = shown_text warned evidence
heard_text sheet innings place own other book warned evidence heard = []

-- told of a datagram received at this place, with the same arguments
abbrev pub came_text : Sheet → ℕ → ℕ → Option Entry → Option Entry → List Entry → Warned → Evidence → What → List ℕ
came_text sheet innings place own other book warned evidence (What.Bad fault) = warning warned.of_bytes (bad_text fault)
came_text sheet innings place own other book warned evidence (What.Heard heard) =
    heard_text sheet innings place own other book warned evidence heard
came_text sheet innings place own other book warned evidence What.Asked = shown_text warned evidence
came_text sheet innings place own other book warned evidence what = []

-- nothing was told of a peer
abbrev pub unwarned : Warned
unwarned = record {
  of_bytes = false;
  of_seal = false;
  of_votes = false;
  of_lines = false;
  of_writing = false;
  of_silence = false;
  doubt = Doubt.No;
}

-- what still counts as told after a vote that is news: the other desk's silence, until it is told that it is heard again, and
-- the desk's doubt, until it is cleared; an ask or a repeated vote is no sign that all is right, since anyone may ask and a
-- vote is repeated until it is answered
abbrev pub unwarned_but : Warned → Warned
unwarned_but warned = record unwarned { of_silence = warned.of_silence; doubt = warned.doubt }

abbrev pub is_other_lacks : Evidence → Bool
is_other_lacks Evidence.OtherLacks = true
is_other_lacks evidence = false

abbrev pub warned_shown : Warned → Evidence → Warned
warned_shown warned evidence =
    record warned { of_lines = warned.of_lines || is_other_lacks evidence; doubt = doubt_after warned.doubt evidence }

abbrev pub warned_after : Warned → Evidence → What → Warned
warned_after warned evidence (What.Bad fault) = record warned { of_bytes = true }
warned_after warned evidence (What.Heard Heard.Mine) = warned_shown warned evidence
warned_after warned evidence (What.Heard Heard.TwoVotes) = record warned { of_votes = true }
warned_after warned evidence (What.Heard Heard.Noted) = unwarned_but warned
warned_after warned evidence (What.Heard Heard.Agreed) = unwarned_but warned
warned_after warned evidence (What.Heard Heard.Differ) = unwarned_but warned
warned_after warned evidence (What.Heard Heard.Old) = warned_shown warned evidence
warned_after warned evidence (What.Heard Heard.Ahead) = warned_shown warned evidence
warned_after warned evidence What.Asked = warned_shown warned evidence
warned_after warned evidence what = warned

-- after a datagram that doesn't open
abbrev pub warned_unopened : Warned → Warned
warned_unopened warned = record warned { of_seal = true }

-- after this reminder about the other desk
abbrev pub warned_reminded : Warned → Reminder → Warned
warned_reminded warned Reminder.HasWritten = record warned { of_writing = true }
warned_reminded warned Reminder.IsMissed = record warned { of_silence = true }
warned_reminded warned Reminder.IsHeard = record warned { of_silence = false }

-- after a line came to this: the scorer may have said `go on`
abbrev pub warned_said : Warned → Said → Warned
warned_said warned (Said.Asks Word.GoOn) = record warned { doubt = dismissed warned.doubt }
warned_said warned said = warned
