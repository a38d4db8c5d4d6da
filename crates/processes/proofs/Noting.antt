-- Processes keep exactly the noted votes, and take the second of two equal ones.
use Rattle.std.proofs.Common.{Ok, Err, ◌≡◌, ◌↔◌, ℕ, Some, None, List, [], ◌∷◌, ◌++◌, refl, sym, ap, ◌∙◌, subst, inl, inr, append-nil}
use Rattle.notation.specs.declared.entry.Entry.{Entry}
use Rattle.corrections.specs.Refusal.{book_refusal}
use Rattle.corrections.specs.declared.refusal.Refusal.{Refusal}
use Rattle.cards.specs.Sheet.{Sheet}
use Rattle.agree_core.specs.declared.messages.{DeskId.DeskId, Message.Message}
use Rattle.agree_core.specs.declared.messages.DeskId.TheVariants.{A, B}
use Rattle.agree_core.specs.Ballots.{Ballot}
use Rattle.agree_core.specs.Boards.{BoardAnswer, BoardState, fresh_board}
use Rattle.agree_core.specs.Desks.{DeskState, PenAnswer, ReceiveAnswer}
use Rattle.agree_core.specs.Openings.{Opened, Opening, NotOpened}
use Rattle.agree_core.specs.Readers.{other}
use Rattle.board.specs.declared.refusal.BoardRefusal.TheVariants.{BadVotes}
use Rattle.wire.specs.declared.what.What.{What}
use Rattle.headline.specs.declared.{event.Event.Event, event.Station.Station, version.FileVersion.FileVersion}
use Rattle.headline.specs.Answers.{Answer}
use Rattle.headline.specs.Configurations.{Running, Down, Node, Configuration, board_at, node, process_votes, with_board, with_node}
use Rattle.headline.specs.KeptVotes.{kept_at}
use Rattle.headline.specs.Noted as noted
use Rattle.headline.specs.Noted.{position_at, process_position}
use Rattle.headline.specs.Runs.{Begins, Moment, Run, Shows, last_of}
use Rattle.headline.specs.Setting.{Setting}
use Rattle.headline.specs.Steps.{Step}
use Rattle.headline.proofs.Heeding.{some_none}
use Rattle.headline.proofs.NotedRuns.{keeps_noted}
use Rattle.headline.proofs.SecondVotes as headline
use Rattle.headline.proofs.ShownBooks.{none_keeps_both}
use Rattle.live.specs.Boards as boards
use Rattle.live.specs.Boards.{BoardCall, BoardStep}
use Rattle.live.specs.Desks as desks
use Rattle.live.specs.Desks.{DeskCall, DeskStep}
use Rattle.live.specs.Sights.{Sight}
use Rattle.station_texts.specs.declared.said.Said.{Said}
use Rattle.processes.specs.Happenings.{BoardBegun, BoardCalled, BoardCame, DeskBegun, DeskCalled, DeskCame, DeskEnded, FileMigrated, PowerLost}
use Rattle.processes.specs.Happenings.{Flow, Happening, Happens, after, after_one, migrated}
use Rattle.processes.specs.Noted.{BeginsAgain, BoardBrings, Brings, DeskBrings, HasNoted, IsBrought, IsFound, KeepsNoted}
use Rattle.processes.specs.SecondVotes.{NoneWaits, TakesSecond}
use Rattle.processes.proofs.Flowing.{fine, runs}
use Rattle.processes.proofs.Likeness.{Like, board_heard, heard, opened, penned, wiped}
use Rattle.processes.proofs.Staying.{SameAt, ask_leaves, board_leaves, goes_down, pen_leaves, same_boards, same_seat}

module _ {Disk : Type 0} where
  -- the station keeps this vote for its position
  abbrev Keeps : Configuration Disk → Station → DeskId → Ballot → Type 0
  Keeps v t c b = (position_at v t ≡ Some b.at) × (kept_at v t c ≡ Some b.entry)

  found_begins : (what : Happening Disk) (t : Station) (c : DeskId) (b : Ballot) → t ≡ Station.Desk c → IsFound what c b → BeginsAgain what t
  found_begins (DeskBegun d (Opened k)) t c b e f = e ∙ ap Station.Desk (sym f.0)
  found_begins what t c b e f = absurd f

module _
    {Disk : Type 0} (s : Setting Disk Refusal) (game innings : ℕ) (rules : s.rules ≡ book_refusal innings)
    (version : FileVersion) (n : ℕ) (w : Configuration Disk) (begins : Begins s version n w)
  where
    -- after these happenings the station keeps exactly the noted votes
    abbrev KeepsAt : List (Happening Disk) → Station → Type 0
    KeepsAt hs t = (c : DeskId) (b : Ballot) → HasNoted game w hs t c b ↔ Keeps (after w hs) t c b

    -- if this then brings the second of two equal votes to the station, which has noted the first, its book grows by their entry
    abbrev TakesAt : List (Happening Disk) → Happening Disk → Station → Type 0
    TakesAt hs what t =
        (book : List Entry) (b : Ballot) (c : DeskId) → Shows (after w hs) t book → HasNoted game w hs t c b
        → IsBrought game (after w hs) what t (other c) b → Shows (after w (what ∷ hs)) t (book ++ b.entry ∷ [])

    abbrev GoesAt : List (Happening Disk) → Happening Disk → Station → Type 0
    GoesAt hs what t = KeepsAt (what ∷ hs) t × TakesAt hs what t

    -- no vote is brought to the station
    module _ (hs : List (Happening Disk)) (what : Happening Disk) (t : Station) (none : (c : DeskId) (b : Ballot) → Brings game what t c b → ⊥) where
      takes_none : TakesAt hs what t
      takes_none book b c shown had brought = absurd (none (other c) b brought.1)

      gone : position_at (after w (what ∷ hs)) t ≡ None → GoesAt hs what t
      gone down = (λ c b. (λ h. absurd (nowhere b h.0), λ k. absurd (nowhere b k.0)), takes_none)
        where
          nowhere : (b : Ballot) → position_at (after w (what ∷ hs)) t ≡ Some b.at → ⊥
          nowhere b at = some_none (position_at (after w (what ∷ hs)) t) b.at down at

      stays : (BeginsAgain what t → ⊥) → SameAt (after w hs) (after w (what ∷ hs)) t → KeepsAt hs t → GoesAt hs what t
      stays on same kept = (λ c b. (forth c b, λ k. (k.0, inr (inr (on, (kept c b).1 (sym same.0 ∙ k.0, sym (same.1 c) ∙ k.1))))), takes_none)
        where
          forth : (c : DeskId) (b : Ballot) → HasNoted game w (what ∷ hs) t c b → Keeps (after w (what ∷ hs)) t c b
          forth c b (at, inl p) = absurd (none c b p.0.1)
          forth c b (at, inr (inl p)) = absurd (on (found_begins what t c b p.0 p.1))
          forth c b (at, inr (inr p)) = (at, same.1 c ∙ ((kept c b).0 p.1).1)

    -- these happenings, and a run that ends where they end: processes keep exactly the noted votes
    module _
        (hs : List (Happening Disk)) (ms : List (Moment Disk Refusal)) (run : Run s w ms) (ends : last_of w ms ≡ after w hs)
        (kept : (t : Station) → KeepsAt hs t)
      where
        abbrev v : Configuration Disk
        v = after w hs

        abbrev u : Configuration Disk
        u = last_of w ms

        abbrev Goes : Happening Disk → Type 0
        Goes what = (t : Station) → GoesAt hs what t

        -- the votes that are noted in the run are those that are noted in the happenings
        had : (t : Station) (c : DeskId) (b : Ballot) → HasNoted game w hs t c b ↔ noted.HasNoted s w ms t c b
        had t c b =
            let before = keeps_noted s version n w ms begins run t c b in (
              λ h. before.1 (subst (λ (x : Configuration Disk). Keeps x t c b) (sym ends) ((kept t c b).0 h)),
              λ k. (kept t c b).1 (subst (λ (x : Configuration Disk). Keeps x t c b) ends (before.0 k)),
            )

        abbrev moment : Happening Disk → Event → Answer Refusal → Moment Disk Refusal
        moment what event answer = record { event = event; answer = answer; after = after_one v what }

        -- a happening that is like one event of a run
        alike : {what : Happening Disk} {event : Event} {answer : Answer Refusal} → Like s game v what event answer → Step s v event answer (after_one v what) → Goes what
        alike {what = what} {event = event} {answer = answer} like step t =
            (λ c b. let now = keeps_noted s version n w (moment what event answer ∷ ms) begins goes t c b in (λ h. now.0 (forth c b h), λ k. back c b (now.1 k)), takes)
          where
            goes : Run s w (moment what event answer ∷ ms)
            goes = (run, rw ends step)

            there : Like s game u what event answer
            there = rw ends like

            brought : (c : DeskId) (b : Ballot) → IsBrought game v what t c b → noted.IsBrought u (moment what event answer) t c b
            brought c b h =
                let came = (there.brings t c b).1 h.1 in
                (subst (λ (x : Configuration Disk). position_at x t ≡ Some b.at) (sym ends) h.0, came.0, came.1)

            brings : (c : DeskId) (b : Ballot) → noted.IsBrought u (moment what event answer) t c b → IsBrought game v what t c b
            brings c b h = (subst (λ (x : Configuration Disk). position_at x t ≡ Some b.at) ends h.0, (there.brings t c b).0 (h.1, h.2))

            forth : (c : DeskId) (b : Ballot) → HasNoted game w (what ∷ hs) t c b → noted.HasNoted s w (moment what event answer ∷ ms) t c b
            forth c b (at, inl p) = (at, inl (brought c b p.0, λ e k. p.1 e ((had t c (record { at = b.at; entry = e })).1 k)))
            forth c b (at, inr (inl p)) = (at, inr (inl (p.0, (there.finds c b).1 p.1)))
            forth c b (at, inr (inr p)) = (at, inr (inr (λ e. p.0 ((there.begins t).0 e), (had t c b).0 p.1)))

            back : (c : DeskId) (b : Ballot) → noted.HasNoted s w (moment what event answer ∷ ms) t c b → HasNoted game w (what ∷ hs) t c b
            back c b (at, inl p) = (at, inl (brings c b p.0, λ e k. p.1 e ((had t c (record { at = b.at; entry = e })).0 k)))
            back c b (at, inr (inl p)) = (at, inr (inl (p.0, (there.finds c b).0 p.1)))
            back c b (at, inr (inr p)) = (at, inr (inr (λ e. p.0 ((there.begins t).1 e), (had t c b).1 p.1)))

            takes : TakesAt hs what t
            takes book b c shown first second =
                headline.takes_second s version n w begins (moment what event answer ∷ ms) goes t book b c (rw ends shown) ((had t c b).0 first) (brought (other c) b second)

        -- a desk goes down, or stays so
        down : (what : Happening Disk) (d : DeskId) (x : Node Disk) → after_one v what ≡ with_node v d x [] → process_position x.process ≡ None
            → ((t : Station) → BeginsAgain what t → t ≡ Station.Desk d) → ((t : Station) (c : DeskId) (b : Ballot) → Brings game what t c b → ⊥) → Goes what
        down what d x e at on none t = elim (goes_down v d x at t) [
          | inl g ↦ gone hs what t (none t) (rw e g)
          | inr r ↦ stays hs what t (none t) (λ q. r.0 (on t q)) (rw e r.1) (kept t)
        ]

        module _ (d : DeskId) (sheet : Sheet) (out : List Message) (k l : DeskState Disk) (text : List ℕ) (at : (node v d).process ≡ Running k) where
          abbrev called : DeskCall → Happening Disk
          called call = DeskCalled d sheet call out l text

          -- a call that brings nothing and leaves the seat
          quiet : (call : DeskCall) → l.seat ≡ k.seat → ((c : DeskId) (b : Ballot) → DeskBrings game d call c b → ⊥) → Goes (called call)
          quiet call e none t = stays hs (called call) t (λ c b q. none c b q.1) (λ q. q) (same_seat v d k l out at e t) (kept t)

          unmoved : (call : DeskCall) → l ≡ k → ((c : DeskId) (b : Ballot) → DeskBrings game d call c b → ⊥) → Goes (called call)
          unmoved call e none = quiet call (ap (λ (x : DeskState Disk). x.seat) e) none

          desk_called : (call : DeskCall) → DeskCame game v.sent call → DeskStep sheet (s.view d (node v d).version) game innings k call out l → Goes (called call)
          desk_called (desks.Typed line (Said.Penned e settled)) came h =
              alike (penned s game v d sheet line e settled out l text)
              (record (node v d) { process = Running l }, out, (k, l, PenAnswer.Penned settled, at, rw rules h.1, (refl, refl)), refl)
          desk_called (desks.Typed line (Said.Refused e why)) came h =
              quiet (desks.Typed line (Said.Refused e why)) (pen_leaves (s.view d (node v d).version) innings k e why l out h.1) (λ c b q. cc (q.1))
          desk_called (desks.Typed line said) came h = unmoved (desks.Typed line said) h.1 (λ c b q. cc (q.1))
          desk_called (desks.Given bytes (What.Heard x)) came h =
              let found = came h.0 h.1 in
              alike (heard s game v d sheet bytes x out l text found.0 h.0 found.1 h.1)
              (record (node v d) { process = Running l }, out, (k, l, h.0, ReceiveAnswer.Told x, at, found.1, h.2, (refl, refl)), refl)
          desk_called (desks.Given bytes What.Asked) came h =
              quiet (desks.Given bytes What.Asked) (ask_leaves (s.view d (node v d).version) k h.0 l out (inl h.2)) (λ c b q. cc (q.1))
          desk_called (desks.Given bytes What.Device) came h =
              quiet (desks.Given bytes What.Device) (ask_leaves (s.view d (node v d).version) k h.0 l out (inr h.2)) (λ c b q. cc (q.1))
          desk_called (desks.Given bytes (What.Bad fault)) came h = unmoved (desks.Given bytes (What.Bad fault)) h.2 (λ c b q. cc (q.1))
          desk_called (desks.Given bytes What.Failed) came h = unmoved (desks.Given bytes What.Failed) h.1 (λ c b q. cc (q.1))
          desk_called desks.Ticked came h = unmoved desks.Ticked h.1 (λ c b q. q)
          desk_called call came h = unmoved call h.0 (λ c b q. q)

        module _ (i : ℕ) (sheet : Sheet) (out : List Message) (k l : BoardState) (text : List ℕ) (seen : List Sight) (at : board_at v.boards i ≡ Some k) where
          abbrev board_call : BoardCall → Happening Disk
          board_call call = BoardCalled i sheet call out l text seen

          -- a call that brings nothing and leaves the board
          board_quiet : (call : BoardCall) → l ≡ k → ((c : DeskId) (b : Ballot) → BoardBrings game call c b → ⊥) → Goes (board_call call)
          board_quiet call e none t = stays hs (board_call call) t (λ c b q. none c b q.1) (λ q. q) (same_boards v i k l out at e t) (kept t)

          board_called : (call : BoardCall) → BoardCame game v.sent call → BoardStep game innings k call out l → Goes (board_call call)
          board_called (boards.Given bytes (Ok (What.Heard x))) came h =
              let got = h.0 in
              let found = came got.0 got.1 in
              alike (board_heard s game v i sheet bytes x out l text seen found.0 got.0 found.1 got.1)
              (k, l, out, at, (got.0, BoardAnswer.Told x, found.1, rw rules got.2, refl, h.1), refl)
          board_called (boards.Given bytes (Ok What.Asked)) came h =
              board_quiet (boards.Given bytes (Ok What.Asked)) (board_leaves innings k h.0.0 l 0 (inl h.0.2)) (λ c b q. cc (q.1))
          board_called (boards.Given bytes (Ok (What.Bad fault))) came h = board_quiet (boards.Given bytes (Ok (What.Bad fault))) h.0.1 (λ c b q. cc (q.1))
          board_called (boards.Given bytes (Ok what)) came h = absurd h.0
          board_called (boards.Given bytes (Err (BadVotes place))) came h =
              board_quiet (boards.Given bytes (Err (BadVotes place))) (board_leaves innings k h.0.0 l place (inr h.0.2)) (λ c b q. cc (q.1))
          board_called boards.Ticked came h = board_quiet boards.Ticked h.1 (λ c b q. q)
          board_called call came h = board_quiet call h.0 (λ c b q. q)

        abbrev fallen : DeskId → Disk → Node Disk
        fallen d disk = record (node v d) { process = Down (process_votes (node v d).process) disk }

        happened : (what : Happening Disk) → Happens s.view game innings v what → Goes what
        happened (DeskCalled d sheet call out l text) h = desk_called d sheet out h.0 l text h.1 call h.2 h.3
        happened (BoardCalled i sheet call out l text seen) h = board_called i sheet out h.0 l text seen h.1 call h.2 h.3
        happened (DeskEnded d disk) h = down (DeskEnded d disk) d (fallen d disk) refl refl (λ t q. absurd q) (λ t c b q. q)
        happened (PowerLost d disk) h = down (PowerLost d disk) d (fallen d disk) refl refl (λ t q. absurd q) (λ t c b q. q)
        happened (FileMigrated d votes new) h = down (FileMigrated d votes new) d (migrated (node v d) new) refl refl (λ t q. absurd q) (λ t c b q. q)
        happened (DeskBegun d (NotOpened why left)) h = down (DeskBegun d (NotOpened why left)) d (fallen d left) refl refl (λ t q. q) (λ t c b q. q)
        happened (DeskBegun d (Opened k)) h =
            let opens = h.3 in
            alike (opened s game v d k h.0 h.1 h.2 opens.0)
            (record (node v d) { process = Running k }, [], (h.0, h.1, Opening.Opened k, h.2, rw rules opens, (refl, refl), refl), refl)
        happened (BoardBegun i) h =
            let with_sent = λ (sent : List Message). record v { boards = with_board v.boards i fresh_board; sent = sent } in
            alike (wiped s game v i) (h.0, fresh_board, [], h.1, (refl, refl, refl), ap with_sent (sym (append-nil v.sent)))
        happened what h = λ t. stays hs what t (λ c b q. q) (λ q. q) (refl, λ c. refl) (kept t)

    abbrev Flowed : List (Happening Disk) → Type 0
    Flowed hs = Flow s.view game innings w hs

    next : (hs : List (Happening Disk)) → ((t : Station) → KeepsAt hs t) → (h : Happening Disk) → Flowed (h ∷ hs) → (t : Station) → GoesAt hs h t
    next hs kept h f = let p = runs s game innings rules version n w begins hs f.0 in happened hs p.moments p.run p.ends kept h f.1

    pub keeps : (hs : List (Happening Disk)) → Flowed hs → KeepsNoted game w hs
    keeps [] f = λ t c b. keeps_noted s version n w [] begins tt t c b
    keeps (h ∷ hs) f = λ t. (next hs (keeps hs f.0) h f t).0

    pub takes_second : (hs : List (Happening Disk)) → Flowed hs → TakesSecond game w hs
    takes_second [] f = tt
    takes_second (h ∷ hs) f = λ t. (next hs (keeps hs f.0) h f t).1

    pub none_waits : (hs : List (Happening Disk)) → Flowed hs → NoneWaits game w hs
    none_waits hs f t a b first second =
        let kept = keeps hs f t in
        none_keeps_both s (after w hs) (fine s game innings rules version n w begins hs f) t a.entry b.entry ((kept A a).0 first).1 ((kept B b).0 second).1
