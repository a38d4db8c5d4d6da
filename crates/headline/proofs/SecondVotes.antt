-- The call that brings the second of two equal votes takes their entry into the book.
use Rattle.std.proofs.Common.{arith, ◌≡◌, ◌≢◌, ◌⊎◌, ℕ, Option, Some, None, List, [], ◌∷◌, ◌++◌, sym, ap, inl, inr}
use Rattle.std.specs.Prelude.{slice_get}
use Rattle.notation.specs.declared.entry.Entry.{Entry}
use Rattle.agree_core.specs.declared.messages.{DeskId.DeskId, Message.Message, Vote.Vote}
use Rattle.agree_core.specs.declared.messages.DeskId.TheVariants.{A, B}
use Rattle.agree_core.specs.Ballots.{Ballot, vote_of}
use Rattle.agree_core.specs.Boards.{BoardAnswer, BoardReceives, BoardState}
use Rattle.agree_core.specs.Desks.{DeskState, ReceiveAnswer, Receives}
use Rattle.agree_core.specs.Positions.{position_of}
use Rattle.agree_core.specs.Readers.{ReaderState, ReaderWaits, noted_of, other}
use Rattle.agree_core.specs.Seats.{SeatState}
use Rattle.headline.specs.declared.{event.Event.Event, event.Station.Station, version.FileVersion.FileVersion}
use Rattle.headline.specs.Setting.{Setting}
use Rattle.headline.specs.Configurations.{Running, Node, Configuration, board_at, node, all_votes, with_node}
use Rattle.headline.specs.Answers.{Answer, board_told}
use Rattle.headline.specs.DeskAnswers.{AfterReceive}
use Rattle.headline.specs.Steps.{Step}
use Rattle.headline.specs.Runs.{Begins, Moment, Run, Shows, last_of, process_shows}
use Rattle.headline.specs.Noted.{Brings, IsVoteAnswer, position_at}
use Rattle.headline.specs.Headline.{NoneWaits, TakesSecond}
use Rattle.headline.specs.KeptVotes.{kept_at, kept_by_seat}
use Rattle.headline.proofs.BoardKeeping.{board_fine_at}
use Rattle.headline.proofs.Given.{given_there}
use Rattle.headline.proofs.Keeping.{Fine, begins_fine, run_keeps, running, node_fine}
use Rattle.headline.proofs.Heeding.{board_put}
use Rattle.headline.proofs.NotedRuns.{keeps_noted}
use Rattle.headline.proofs.ShownBooks.{none_keeps_both}

module _ {Disk Why : Type 0} (s : Setting Disk Why) where
  -- the station shows this book, and keeps this vote for its position
  abbrev Keeps : Configuration Disk → Station → List Entry → DeskId → Ballot → Type 0
  Keeps w t book c b = Shows w t book × (position_at w t ≡ Some b.at) × (kept_at w t c ≡ Some b.entry)

  board_keeps : (w : Configuration Disk) (n : ℕ) (c : DeskId) (k : BoardState) (book : List Entry) (b : Ballot) → board_at w.boards n ≡ Some k → Keeps w (Station.Board n) book c b
      → (k.book ≡ book) × (k.reader.position ≡ b.at) × (noted_of k.reader c ≡ Some b.entry)
  board_keeps w n c k book b h0 h1 = grind arith

  desk_given : (w : Configuration Disk) (d c : DeskId) (n : ℕ) (book : List Entry) (b : Ballot) (answer : Answer Why) (new : Configuration Disk) → Fine s w → Keeps w (Station.Desk d) book c b
      → other c ≢ d → slice_get w.sent n ≡ Some (Message.Vote (vote_of (other c) b)) → Step s w (Event.Give n (Station.Desk d)) answer new → IsVoteAnswer answer
      → Shows new (Station.Desk d) (book ++ b.entry ∷ [])
  desk_given w d c n book b answer new f g apart sent p i =
      grind (arith, given_there, running, node_fine)

  desk_penned : (w : Configuration Disk) (c : DeskId) (book : List Entry) (b : Ballot) (answer : Answer Why) (new : Configuration Disk) → Keeps w (Station.Desk (other c)) book c b
      → Step s w (Event.Pen (other c) b.entry) answer new → IsVoteAnswer answer → Shows new (Station.Desk (other c)) (book ++ b.entry ∷ [])
  desk_penned w c book b answer new h0 h1 h2 = grind arith

  board_given : (w : Configuration Disk) (number : ℕ) (c : DeskId) (n : ℕ) (book : List Entry) (b : Ballot) (answer : Answer Why) (new : Configuration Disk) → Fine s w
      → Keeps w (Station.Board number) book c b → slice_get w.sent n ≡ Some (Message.Vote (vote_of (other c) b)) → Step s w (Event.Give n (Station.Board number)) answer new → IsVoteAnswer answer
      → Shows new (Station.Board number) (book ++ b.entry ∷ [])
  board_given w number c n book b answer new f g sent p i =
      let h = board_keeps w number c p.0 book b p.3 g in
      let q = p.4 in
      let this = given_there w.sent n q.0 (Message.Vote (vote_of (other c) b)) sent q.2 in
      let fine = board_fine_at (all_votes w) w.boards number p.0 p.3 f.on_boards in
      (p.1, grind (arith, board_put), grind arith)

  second_taken : (w : Configuration Disk) (event : Event) (answer : Answer Why) (new : Configuration Disk) (t : Station) (book : List Entry) (b : Ballot) (c : DeskId) → Fine s w → Keeps w t book c b
      → Brings w event t (other c) b → Step s w event answer new → IsVoteAnswer answer → Shows new t (book ++ b.entry ∷ [])
  second_taken w event answer new (Station.Desk d) book b c f h (inl (apart, (n, e, sent))) p i =
      desk_given w d c n book b answer new f h (λ q. apart (ap Station.Desk (sym q))) sent (rw e at p) i
  second_taken w event answer new (Station.Board number) book b c f h (inl (apart, (n, e, sent))) p i = board_given w number c n book b answer new f h sent (rw e at p) i
  second_taken w event answer new t book b c f h (inr (here, e)) p i = rw here (desk_penned w c book b answer new (rw here at h) (rw e at p) i)

  -- it holds for noted votes, since these are the kept ones
  pub takes_second : (version : FileVersion) (n : ℕ) (w : Configuration Disk) → Begins s version n w → (ms : List (Moment Disk Why)) → Run s w ms → TakesSecond s w ms
  takes_second version n w e [] r = tt
  takes_second version n w e (m ∷ ms) r = λ t book b c shown noted brought.
      let kept = (keeps_noted s version n w ms e r.0 t c b).0 noted in
      second_taken (last_of w ms) m.event m.answer m.after t book b c (run_keeps s w ms (begins_fine s version n w e) r.0) (shown, kept.0, kept.1) brought.1 r.1 brought.2

  pub none_waits : (version : FileVersion) (n : ℕ) (w : Configuration Disk) → Begins s version n w → (ms : List (Moment Disk Why)) → Run s w ms → NoneWaits s w ms
  none_waits version n w e ms r t b c p q =
      let kept = keeps_noted s version n w ms e r t in
      none_keeps_both s (last_of w ms) (run_keeps s w ms (begins_fine s version n w e) r) t b.entry c.entry ((kept A b).0 p).1 ((kept B c).0 q).1
