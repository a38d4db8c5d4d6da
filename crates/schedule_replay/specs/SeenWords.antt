-- The words for each outcome of an event, and the number of each refusal.
use Rattle.std.specs.Prelude.{ℕ, Bool, true, false, List, ◌++◌, codes, decimal, Option, Some, None}
use Rattle.agree_core.specs.declared.seat.{Heard.Heard, Settled.Settled}
use Rattle.desk.specs.Refusal as desk
use Rattle.vote_store.specs.Refusal as votes
use Rattle.wire.specs.Fault as wire
use Rattle.schedule_replay.specs.declared.seen.{Cause.Cause, Seen.Seen, WorldRefusal.WorldRefusal}
use Rattle.schedule_replay.specs.declared.seen.WorldRefusal.TheVariants.{NoMessage, NoStation, WorldFull, Down, Up, NoMemory}

-- running out of memory has no number
abbrev pub refusal_number : WorldRefusal → Option ℕ
refusal_number NoMessage = Some 80
refusal_number NoStation = Some 81
refusal_number WorldFull = Some 82
refusal_number Down = Some 83
refusal_number Up = Some 84
refusal_number NoMemory = None

abbrev pub cause_number : Cause → Option ℕ
cause_number (Cause.Desk why) = Some (desk.number_of why)
cause_number (Cause.Open why) = desk.open_number_of why
cause_number (Cause.Migrate why) = votes.number why

abbrev pub settled_words : Settled → List ℕ
settled_words Settled.Pending = codes "pending"
settled_words Settled.Agreed = codes "agreed"
settled_words Settled.Differ = codes "differ"

abbrev pub heard_words : Heard → List ℕ
heard_words Heard.Mine = codes "mine"
heard_words Heard.Old = codes "old"
heard_words Heard.Ahead = codes "ahead"
heard_words Heard.Again = codes "again"
heard_words Heard.TwoVotes = codes "two"
heard_words Heard.Noted = codes "noted"
heard_words Heard.Agreed = codes "agreed"
heard_words Heard.Differ = codes "differ"

abbrev pub asked_words : Bool → List ℕ
asked_words true = codes "answered"
asked_words false = codes "no answer"

abbrev pub refused_words : Option ℕ → List ℕ
refused_words (Some n) = codes "refused " ++ decimal n
refused_words None = codes "no memory"

abbrev pub seen_words : Seen → List ℕ
seen_words (Seen.Penned settled) = settled_words settled
seen_words (Seen.Refused why) = refused_words (cause_number why)
seen_words Seen.Stopped = codes "stopped"
seen_words (Seen.Ticked n) = codes "sent " ++ decimal n
seen_words (Seen.Heard heard) = heard_words heard
seen_words (Seen.Asked replied) = asked_words replied
seen_words (Seen.Bad fault) = codes "bad " ++ decimal (wire.number_of fault)
seen_words Seen.BadVotes = codes "refused 64"
seen_words Seen.Failed = codes "failed"
seen_words (Seen.Opened n) = codes "opened " ++ decimal n
seen_words (Seen.Migrated n) = codes "migrated " ++ decimal n
seen_words Seen.Done = codes "done"
