-- Outcomes and datagrams of the code, in the terms of the definitions.
use Rattle.std.specs.Prelude.{◌≡◌, ℕ, Bool, true, false, List, map, All, is_some, Option, Some, None, Err}
use Rattle.corrections.specs.declared.refusal.Refusal.{Refusal}
use Rattle.entry_log.specs.declared.refusal.Refusal.TheVariants as files
use Rattle.vote_store.specs.declared.refusal.Refusal.{Refusal as VotesRefusal}
use Rattle.agree_core.specs.declared.messages.Message.{Message}
use Rattle.agree_core.specs.Desks.{PenAnswer}
use Rattle.agree_core.specs.Openings.{OpenRefusal}
use Rattle.wire.specs.declared.{datagram.Datagram.Datagram, what.What.What}
use Rattle.wire.specs.Layout.{IsMessage, written}
use Rattle.desk.specs.declared.refusal.Refusal.{Refusal as DeskRefusal}
use Rattle.desk.specs.Answers.{open_cause, pen_answer}
use Rattle.schedule_replay.specs.declared.seen.{Cause.Cause, Seen.Seen}
use Rattle.headline.specs.Answers.{Answer}

-- the answer of a pen
abbrev pub told_to_pen : PenAnswer Refusal → Answer Refusal
told_to_pen (PenAnswer.Penned settled) = Answer.Penned settled
told_to_pen (PenAnswer.Refused why) = Answer.NotPenned why
told_to_pen PenAnswer.DeviceFailed = Answer.DeviceFailed

abbrev pub told_to_open : OpenRefusal → Option (Answer Refusal)
told_to_open OpenRefusal.Unsound = Some Answer.Unsound
told_to_open (OpenRefusal.BadVotes place) = Some Answer.NoBook
told_to_open OpenRefusal.NoMemory = None
told_to_open OpenRefusal.DeviceFailed = Some Answer.DeviceFailed

-- the answer to a file that isn't migrated; running out of memory is no answer
abbrev pub told_to_migrate : VotesRefusal → Option (Answer Refusal)
told_to_migrate VotesRefusal.NoMemory = None
told_to_migrate (VotesRefusal.File files.Device) = Some Answer.DeviceFailed
told_to_migrate (VotesRefusal.File files.Version) = Some Answer.OtherVersion
told_to_migrate (VotesRefusal.File fault) = Some Answer.Unsound
told_to_migrate (VotesRefusal.NotASequence slot) = Some Answer.Unsound

abbrev pub told_by : Cause → Option (Answer Refusal)
told_by (Cause.Desk why) = Some (told_to_pen (pen_answer (Err why)))
told_by (Cause.Open why) = told_to_open (open_cause why)
told_by (Cause.Migrate why) = told_to_migrate why

abbrev pub is_device : DeskRefusal → Bool
is_device DeskRefusal.Device = true
is_device _ = false

-- the answer that an outcome shows; bytes that are no message have no answer
abbrev pub answer_of : Seen → Option (Answer Refusal)
answer_of (Seen.Penned settled) = Some (Answer.Penned settled)
answer_of (Seen.Refused cause) = told_by cause
answer_of Seen.Stopped = Some Answer.Stopped
answer_of (Seen.Ticked n) = Some (Answer.Ticked n)
answer_of (Seen.Heard h) = Some (Answer.Told h)
answer_of (Seen.Asked replied) = Some (Answer.Asked replied)
answer_of (Seen.Bad fault) = None
answer_of Seen.BadVotes = Some Answer.BadVotes
answer_of Seen.Failed = Some Answer.HasFailed
answer_of (Seen.Opened n) = Some (Answer.Opened n)
answer_of (Seen.Migrated n) = Some (Answer.Migrated n)
answer_of Seen.Done = Some Answer.Done

-- the datagrams are the bytes of these messages
abbrev pub AreBytesOf : ℕ → List Datagram → List Message → Type 0
AreBytesOf game sent messages = All IsMessage messages × (map (λ d. d.bytes) sent ≡ map (written game) messages)

-- the outcome of a desk that was given bytes, unless its device failed
abbrev pub given_seen : What → Option (List ℕ) → Seen
given_seen (What.Bad fault) reply = Seen.Bad fault
given_seen (What.Heard h) reply = Seen.Heard h
given_seen What.Asked reply = Seen.Asked (is_some reply)
given_seen What.Device reply = Seen.Failed
given_seen What.Failed reply = Seen.Failed

abbrev pub is_fault : What → Bool
is_fault What.Device = true
is_fault _ = false

-- why a votes file isn't found: memory ran out, or its disk failed
abbrev pub wants_memory : VotesRefusal → Bool
wants_memory VotesRefusal.NoMemory = true
wants_memory _ = false

abbrev pub is_failing : VotesRefusal → Bool
is_failing (VotesRefusal.File files.Device) = true
is_failing _ = false
