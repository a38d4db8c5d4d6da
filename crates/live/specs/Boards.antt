-- A board's process, turn by turn.
use Rattle.std.specs.Prelude.{◌≡◌, ◌⊎◌, ◌<◌, ◌+◌, ℕ, Bool, true, false, if◌then◌else◌, nat_eq, nat_lt, List, [], ◌∷◌, ◌++◌, All, length, slice_index, Option, Some, None, is_some, Result, Ok, Err, IsErr, OnOk}
use Rattle.notation.specs.declared.entry.Entry.{Entry}
use Rattle.corrections.specs.CleanList.{history_of}
use Rattle.corrections.specs.Refusal.{book_refusal}
use Rattle.agree_core.specs.declared.{messages.DeskId.DeskId, messages.Message.Message, messages.Vote.Vote, position.Position.Position, seat.Heard.Heard}
use Rattle.agree_core.specs.Boards.{BoardState, BoardTicks}
use Rattle.vote_store.specs.Record.{entry_coded}
use Rattle.wire.specs.Layout.{IsMessage, Says, body_in, written}
use Rattle.wire.specs.inner.Fields.{desk_numbered, place_in}
use Rattle.wire.specs.declared.what.What.{What}
use Rattle.cards.specs.Sheet.{Sheet}
use Rattle.cards.specs.Board.{board as board_text}
use Rattle.board.specs.declared.{refusal.BoardRefusal.BoardRefusal, board.Board.Board, trouble.Trouble.Trouble, trouble.Why.Why, witness.Round.Round}
use Rattle.board.specs.Board.{SameMatch, book_of, game_of, state_of}
use Rattle.board.specs.Rounds.{recalled, whole_round, with_round}
use Rattle.board.specs.Takes.{Takes}
use Rattle.station_texts.specs.Notices.{is_stopped, notices_after, notices_unopened, opens, telling_after, telling_unopened, untold, with_trouble}
use Rattle.links.specs.Passed.{Passed, Came, Sent, sends}
use Rattle.links.specs.declared.link.Receivers.TheVariants.{ToAll, ToOne}
use Rattle.live.specs.Runs.{Goes, Kind, Logs, known_where, with_told}
use Rattle.live.specs.Sights.{Sight, sight_of}
use Rattle.live.specs.Ticks.{Beat, Look, MayBeat, Other, Reading, Tick, Ticking, TurnEnd, after_beat, unticked}
use Rattle.links.specs.declared.link.TheConstants.{MOST_TAKEN}
use Rattle.station_texts.specs.declared.{notices.Notice.Notice, notices.Telling.Telling}
use Rattle.live.specs.declared.later.Later.{Later}

-- A call of a board. Given: it is given a datagram. Parted: a datagram shows that a desk's file lacks lines; Recalled: a
-- datagram may show it; in both, that desk's own vote goes back to it. PassedBy: a datagram comes once the board has stopped;
-- Unopened: a datagram doesn't open; in both, the board is given nothing. ToldApart: it tells that the desks told it different
-- lines. Looked: a look at its clock, whether a tick is due. Ticked: a tick. Read: another reading of its clock. TurnEnded: the
-- end of a turn.
pub data BoardCall : Type 0 where
  Given : List ℕ → Result What BoardRefusal → BoardCall
  Parted : List ℕ → List ℕ → BoardCall
  Recalled : List ℕ → List ℕ → BoardCall
  PassedBy : List ℕ → BoardCall
  Unopened : BoardCall
  ToldApart : BoardCall
  Looked : ℕ → BoardCall
  Ticked : BoardCall
  Read : ℕ → BoardCall
  TurnEnded : BoardCall

-- in a match with this number and this many innings a side
abbrev pub BoardStep : ℕ → ℕ → BoardState → BoardCall → List Message → BoardState → Type 0
BoardStep game innings k (Given bytes answer) out l = Takes (book_refusal innings) game k bytes answer l × (out ≡ [])
BoardStep game innings k Ticked out l = BoardTicks k out × (l ≡ k)
BoardStep game innings k call out l = (l ≡ k) × (out ≡ [])

-- what a call is to the clock
abbrev pub beat_of : BoardCall → Beat
beat_of (Looked now) = Look now
beat_of (Read now) = Reading now
beat_of Ticked = Tick
beat_of TurnEnded = TurnEnd
beat_of call = Other

-- what a board's process remembers: what it has told, the rounds of which it has heard both votes, the oldest first, and which
-- desks it has heard to be ahead
pub record Memory : Type 0 where
  pub telling : Telling
  pub rounds : List Round
  pub later : Later

abbrev pub memory_of : Telling → List Round → Later → Memory
memory_of telling rounds later = record { telling = telling; rounds = rounds; later = later }

abbrev pub neither : Later
neither = record { a = false; b = false }

-- nothing was told or heard
abbrev pub unheard : Memory
unheard = memory_of untold [] neither

-- an answer that brings the board to another position
abbrev pub settles : Result What BoardRefusal → Bool
settles (Ok what) = opens what
settles (Err refusal) = false

-- the rounds remembered after the board has answered a datagram so
abbrev pub rounds_after : BoardState → List Round → List ℕ → Result What BoardRefusal → List Round
rounds_after k rounds bytes answer =
    if settles answer then with_round rounds (whole_round k.reader (entry_coded (body_in bytes))) else rounds

-- with this desk too, if one is given
abbrev pub with_desk : Later → Option DeskId → Later
with_desk later None = later
with_desk later (Some DeskId.A) = record later { a = true }
with_desk later (Some DeskId.B) = record later { b = true }

-- the desk of a vote, if the vote is for a later place than this; likewise for the vote in a datagram
abbrev pub desk_ahead : ℕ → Vote → Option DeskId
desk_ahead place v = if nat_lt place v.place then Some v.desk else None

abbrev pub desk_ahead_in : ℕ → List ℕ → Option DeskId
desk_ahead_in place bytes = if nat_lt place (place_in bytes) then desk_numbered (slice_index bytes 12) else None

-- the desks heard to vote for a later place since the board came to its position, after this answer; `desk` is the one just
-- heard
abbrev pub later_after : Later → Option DeskId → Result What BoardRefusal → Later
later_after later desk (Ok (What.Heard Heard.Agreed)) = neither
later_after later desk (Ok (What.Heard Heard.Differ)) = neither
later_after later desk (Ok (What.Heard Heard.Ahead)) = with_desk later desk
later_after later desk answer = later

abbrev pub memory_given : BoardState → Memory → List ℕ → Result What BoardRefusal → Memory
memory_given k memory bytes answer =
    memory_of (telling_after memory.telling answer) (rounds_after k memory.rounds bytes answer)
    (later_after memory.later (desk_ahead_in k.reader.position.place bytes) answer)

abbrev pub memory_unopened : Memory → Memory
memory_unopened memory = record memory { telling = telling_unopened memory.telling }

-- it is told that this trouble keeps the board from going on
abbrev pub memory_troubled : Memory → ℕ → Why → Memory
memory_troubled memory place why = record memory { telling = with_trouble memory.telling place why }

-- a board in a turn: how many turns are over, how many entries its book had as this turn began, how many datagrams were taken
-- in it, what it remembers, what it saw of its clock, and all notices and all that it handed over to be shown, the oldest first
pub record BoardTurn : Type 0 where
  pub board : BoardState
  pub turns : ℕ
  pub had : ℕ
  pub taken : ℕ
  pub memory : Memory
  pub ticking : Ticking
  pub notices : List Notice
  pub seen : List Sight

-- a turn begins
abbrev pub begun : BoardState → ℕ → Memory → Ticking → List Notice → List Sight → BoardTurn
begun k turns memory ticking notices seen = record {
  board = k;
  turns = turns;
  had = length k.book;
  taken = 0;
  memory = memory;
  ticking = ticking;
  notices = notices;
  seen = seen;
}

-- By what it has heard, no votes will come for this position: it is a later round of its place, after votes that differed, and
-- yet both desks vote for later places. So they voted alike in an earlier round, which this board heard otherwise.
abbrev pub IsApart : Position → Later → Type 0
IsApart at later = (0 < at.round) × (later.a ≡ true) × (later.b ≡ true)

-- `back` is the vote that goes back to the desk that sends this message
abbrev pub Recalls : ℕ → List Round → Message → List ℕ → Type 0
Recalls game rounds m back = (v : Vote) × (recalled rounds m ≡ Some v) × (back ≡ written game (Message.Vote v))

abbrev pub RecallsNone : ℕ → List Round → List ℕ → Type 0
RecallsNone game rounds bytes = (m : Message) → Says game bytes m → recalled rounds m ≡ None

-- an ask parts nothing, nor does any message once the board has stopped
abbrev pub PartsNothing : Bool → Message → Type 0
PartsNothing stopped (Message.Vote v) = stopped ≡ true
PartsNothing stopped (Message.Ask q) = Unit {0}

-- In a turn a board takes eight datagrams at most. It is given those that, by the rounds it has heard, show no desk's file to
-- lack lines; and none once it has stopped. A desk whose file lacks lines, or may, gets its own vote back. It may tell that the
-- desks told it different lines if they did, unless it already told of a trouble that keeps it from going on; its clock decides
-- when.
abbrev pub MayCall : ℕ → BoardTurn → BoardCall → Type 0
MayCall game k (Given bytes answer) =
    (k.taken < MOST_TAKEN) × (is_stopped k.memory.telling ≡ false) × RecallsNone game k.memory.rounds bytes
MayCall game k (Parted bytes back) =
    (k.taken < MOST_TAKEN) × (is_stopped k.memory.telling ≡ false)
    × (v : Vote) × Says game bytes (Message.Vote v) × Recalls game k.memory.rounds (Message.Vote v) back
MayCall game k (Recalled bytes back) =
    (k.taken < MOST_TAKEN)
    × (m : Message) × Says game bytes m × PartsNothing (is_stopped k.memory.telling) m × Recalls game k.memory.rounds m back
MayCall game k (PassedBy bytes) =
    (k.taken < MOST_TAKEN) × (is_stopped k.memory.telling ≡ true) × RecallsNone game k.memory.rounds bytes
MayCall game k Unopened = k.taken < MOST_TAKEN
MayCall game k ToldApart =
    IsApart k.board.reader.position k.memory.later × (is_some k.memory.telling.trouble ≡ false)
MayCall game k call = Unit {0}

-- at the end of a turn, the book and what keeps the board from going on are handed over to be shown
abbrev pub handed : Sheet → ℕ → BoardTurn → BoardCall → BoardState → List Sight
handed sheet innings k TurnEnded l = sight_of sheet innings l.book k.memory.telling.trouble ∷ []
handed sheet innings k call l = []

abbrev pub after_call : Sheet → ℕ → BoardTurn → BoardCall → BoardState → BoardTurn
after_call sheet innings k (Given bytes answer) l =
    record k {
      board = l;
      taken = k.taken + 1;
      memory = memory_given k.board k.memory bytes answer;
      notices = notices_after k.memory.telling k.notices answer;
    }
after_call sheet innings k (Parted bytes back) l =
    record k {
      board = l;
      taken = k.taken + 1;
      memory = memory_troubled k.memory (place_in bytes) Why.Anew;
      notices = k.notices ++ Notice.Parted (place_in bytes) ∷ [];
    }
after_call sheet innings k (Recalled bytes back) l = record k { board = l; taken = k.taken + 1 }
after_call sheet innings k (PassedBy bytes) l = record k { board = l; taken = k.taken + 1 }
after_call sheet innings k ToldApart l =
    record k {
      board = l;
      memory = memory_troubled k.memory k.board.reader.position.place Why.Apart;
      notices = k.notices ++ Notice.Apart k.board.reader.position.place ∷ [];
    }
after_call sheet innings k Unopened l =
    record k {
      board = l;
      taken = k.taken + 1;
      memory = memory_unopened k.memory;
      notices = notices_unopened k.memory.telling k.notices;
    }
after_call sheet innings k TurnEnded l =
    begun l (k.turns + 1) k.memory (after_beat k.ticking TurnEnd) k.notices (k.seen ++ handed sheet innings k TurnEnded l)
after_call sheet innings k call l = record k { board = l; ticking = after_beat k.ticking (beat_of call) }

-- a board makes a call, and ticks in time
abbrev pub TurnStep : Sheet → ℕ → ℕ → BoardTurn → BoardCall → List Message → BoardTurn → Type 0
TurnStep sheet game innings k call out l =
    MayCall game k call × BoardStep game innings k.board call out l.board × (l ≡ after_call sheet innings k call l.board)
    × MayBeat k.ticking (beat_of call)

abbrev pub given : BoardCall → List Passed
given (Given bytes answer) = Came bytes ∷ []
given (Parted bytes back) = Came bytes ∷ Sent ToOne back ∷ []
given (Recalled bytes back) = Came bytes ∷ Sent ToOne back ∷ []
given (PassedBy bytes) = Came bytes ∷ []
given call = []

-- the text, if the book's length has changed
abbrev pub grown : Bool → List ℕ → List ℕ
grown true text = []
grown false text = text

-- at the end of a turn, the book's six lines, if it has grown in the turn
abbrev pub shown : Sheet → ℕ → BoardTurn → BoardCall → BoardTurn → List ℕ
shown sheet innings k TurnEnded l =
    grown (nat_eq (length k.board.book) k.had) (board_text sheet innings (history_of k.board.book))
shown sheet innings k call l = []

-- everything that a board says by itself goes to all
abbrev pub board_kind : Sheet → ℕ → ℕ → Kind BoardTurn BoardCall
board_kind sheet game innings = record {
  game = game;
  Step = TurnStep sheet game innings;
  given = given;
  typed = λ call. [];
  receivers = λ call. ToAll;
  beat = beat_of;
  ticking = λ k. k.ticking;
  prints = shown sheet innings;
  tells = λ k call. [];
}

module _ {B : Type 0} {g : _} (content : B → List Entry) where
  -- what a board says unasked, to all, is exactly what the link's log grew by
  pub record Asks (k : Board B g) (before after : List Passed) : Type 0 where
    pub out : List Message
    pub fine : All IsMessage out
    pub passed : after ≡ before ++ sends ToAll (game_of k) out
    pub step : BoardTicks (state_of content k) out

  -- a board in a turn
  abbrev pub in_turn : Board B g → ℕ → ℕ → ℕ → Memory → Ticking → List Notice → List Sight → BoardTurn
  in_turn k turns had taken memory ticking notices seen =
      record (begun (state_of content k) turns memory ticking notices seen) { had = had; taken = taken }

  -- a board at the beginning of a turn
  abbrev pub at_turn : Board B g → ℕ → Memory → Ticking → List Notice → List Sight → BoardTurn
  at_turn k turns memory ticking notices seen = begun (state_of content k) turns memory ticking notices seen

module _ {B : Type 0} {g : _} (content : B → List Entry) (innings_of : B → ℕ) where
  -- a run from one state of a board's process to another, of the same board and match
  pub record BoardGoes (sheet : Sheet) (old new : Board B g) (k l : BoardTurn) (before after : Logs) : Type 0 where
    pub same : SameMatch innings_of old new
    pub goes : Goes (board_kind sheet (game_of old) (innings_of (book_of old))) k l before after

  -- A board's process from the beginning of one turn, with this memory, to that of another. Unless a write failed, all turns
  -- between them are over, and the six lines were printed at the end of each turn in which the book grew. Its notices are
  -- exactly those that were told, and it handed over to be shown exactly its book, with what keeps it from going on, at the end
  -- of each turn.
  pub record BoardRuns
      {E : Type 0} (sheet : Sheet) (old new : Board B g) (before after : Logs) (from to : ℕ) (memory : Memory)
      (ticking : Ticking) (noted notes : List Notice) (seen sees : List Sight) (result : Result (Unit {0}) E) : Type 0 where
    pub last : BoardTurn
    pub is : last.board ≡ state_of content new
    pub noticed : last.notices ≡ notes
    pub sighted : last.seen ≡ sees
    pub goes : BoardGoes sheet old new (at_turn content old from memory ticking noted seen) last
        (known_where result before) (known_where result after)
    pub whole : OnOk result (last ≡ at_turn content new to last.memory last.ticking notes sees)

  -- a board's book as handed over to be shown, with the trouble that keeps the board from going on, if any
  abbrev pub sight_at : Sheet → Board B g → Option Trouble → Sight
  sight_at sheet k trouble = sight_of sheet (innings_of (book_of k)) (content (book_of k)) trouble

  -- A board's process from its beginning, with this board: its six lines are printed and its book is handed over to be shown,
  -- at a reading of its clock; then it runs for this many turns. If one of these steps fails, the process ends, and nothing is
  -- said of the text.
  pub record BoardLives
      {E : Type 0} (sheet : Sheet) (old new : Board B g) (before after : Logs) (turns : ℕ) (noted notes : List Notice)
      (seen sees : List Sight) (result : Result (Unit {0}) E) : Type 0 where
    pub first : List Sight
    pub shows_first : (first ≡ sight_at sheet old None ∷ []) ⊎ ((first ≡ []) × IsErr result)
    pub runs : BoardRuns sheet old new
        (with_told before (board_text sheet (innings_of (book_of old)) (history_of (content (book_of old))))) after 0 turns unheard unticked noted notes (seen ++ first) sees result
