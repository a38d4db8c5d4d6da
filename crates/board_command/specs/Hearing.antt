-- When a board heard its desks, and what it tells of their silence.
use Rattle.std.specs.Prelude.{ℕ, ◌-◌, ◌/◌, ◌&&◌, ◌||◌, Bool, true, false, nat_le, is_some, List, [], ◌∷◌, Option, Some, None}
use Rattle.agree_core.specs.declared.messages.{Asker.Asker, DeskId.DeskId, Message.Message}
use Rattle.live.specs.Hearings.{Hearing}
use Rattle.scoreboard.specs.declared.value.LastHeard.{LastHeard}
use Rattle.board_command.specs.declared.hearing.{HeardAt.HeardAt, News.News}
use Rattle.board_command.specs.declared.hearing.TheConstants.{LONGEST_SILENCE}

-- which desk sends a message, if a desk does
abbrev pub asking_desk : Asker → Option DeskId
asking_desk Asker.A = Some DeskId.A
asking_desk Asker.B = Some DeskId.B
asking_desk Asker.Board = None

abbrev pub desk_of : Message → Option DeskId
desk_of (Message.Vote v) = Some v.desk
desk_of (Message.Ask q) = asking_desk q.from

-- a message of this desk came at this time
abbrev pub heard_from : Option DeskId → HeardAt → ℕ → HeardAt
heard_from None old now = old
heard_from (Some DeskId.A) old now = record old { a = Some now }
heard_from (Some DeskId.B) old now = record old { b = Some now }

-- a board begins, and has heard no desk
abbrev pub board_begun : ℕ → HeardAt
board_begun now = record { begun = now; a = None; b = None }

-- then these messages are heard, the oldest first, and nothing else
abbrev pub heard_in : HeardAt → List Hearing → HeardAt
heard_in old [] = old
heard_in old (h ∷ later) = heard_in (heard_from (desk_of h.message) old h.at) later

-- a desk was heard since the board began
abbrev pub is_heard : HeardAt → Bool
is_heard h = is_some h.a || is_some h.b

-- this time, if it ever was, was so long ago that nobody is heard
abbrev pub is_long_ago : ℕ → ℕ → Bool
is_long_ago at now = nat_le LONGEST_SILENCE (now - at)

abbrev pub was_long_ago : Option ℕ → ℕ → Bool
was_long_ago None now = true
was_long_ago (Some at) now = is_long_ago at now

-- the board began that long ago, and has heard neither desk for as long
abbrev pub is_silent : HeardAt → ℕ → Bool
is_silent h now = is_long_ago h.begun now && (was_long_ago h.a now && was_long_ago h.b now)

-- how many whole seconds ago each desk was heard
abbrev pub seconds_since : Option ℕ → ℕ → Option ℕ
seconds_since None now = None
seconds_since (Some at) now = Some ((now - at) / 1000)

abbrev pub last_heard : HeardAt → ℕ → LastHeard
last_heard h now = record { a = seconds_since h.a now; b = seconds_since h.b now }

-- the news, by whether silence was told before, and whether the desks are silent now
abbrev pub news_of : Bool → Bool → Option News
news_of false true = Some News.Silent
news_of true false = Some News.HeardAgain
news_of was is = None
