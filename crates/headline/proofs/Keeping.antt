-- What every event of a run keeps, over any disk.
use Rattle.std.proofs.Common.{arith, ◌≡◌, ℕ, Option, Some, None, List, [], ◌∷◌, ◌++◌, refl, sym, ap, ◌∙◌, subst}
use Rattle.agree_core.specs.declared.messages.{DeskId.DeskId, Message.Message}
use Rattle.agree_core.specs.declared.messages.DeskId.TheVariants.{A, B}
use Rattle.agree_core.specs.Ballots.{AllJustified, AllVotes, Ballot, Justified, VotesGrow, Within, votes_by}
use Rattle.agree_core.specs.Boards.{BoardState}
use Rattle.agree_core.specs.Desks.{DeskState, PenAnswer, ReceiveAnswer}
use Rattle.agree_core.specs.FileView.{MaySync, Stays}
use Rattle.agree_core.specs.Openings.{Opening, Opens}
use Rattle.agree_core.specs.Readers.{other}
use Rattle.agree_core.proofs.Order.{justified_grows}
use Rattle.headline.specs.Given.{IsGiven}
use Rattle.headline.specs.declared.{event.Event.Event, event.Station.Station, fault.Fault.Fault, version.FileVersion.FileVersion}
use Rattle.headline.specs.declared.fault.Fault.TheVariants.{Fail, Stop}
use Rattle.headline.specs.declared.version.FileVersion.TheVariants.{Old}
use Rattle.headline.specs.Setting.{Setting}
use Rattle.headline.specs.Configurations.{Process, Running, Down, Node, Configuration, node, process_disk, process_votes, all_votes, with_disk, with_node}
use Rattle.headline.specs.Events.{station_of}
use Rattle.headline.specs.Answers.{Answer}
use Rattle.headline.specs.DeskFaults.{Breaks, FallsDue, LosesPower, StaysDownBy}
use Rattle.headline.specs.Migrations.{MigratesAt}
use Rattle.headline.specs.DeskSteps.{AtDesk}
use Rattle.headline.specs.BoardSteps.{AtBoard}
use Rattle.headline.specs.Steps.{Step, StepAt}
use Rattle.headline.specs.Runs.{Begins, BeginsAt, Moment, Run, last_of}
use Rattle.headline.specs.DeskAnswers.{AfterOpen, AfterPen, AfterReceive}
use Rattle.agree_core.specs.Keeping.{BoardFine, DeskFine, DeskKept, DiskFine, Each, MessageFine, OneMore, OwnMessage, ShowsMore, TheirMessage}
use Rattle.agree_core.proofs.Both.{same}
use Rattle.agree_core.proofs.Desks.{desk_grows, not_opened_keeps, opened_keeps, pens_keep, receives_keep, stays_fine, ticks_keep}
use Rattle.agree_core.proofs.Boards.{board_asks, board_grows, board_receives_keeps, fresh_fine, message_grows}
use Rattle.headline.proofs.BoardKeeping.{board_fine_at, board_set, each_append, each_other, fresh_boards_are}
use Rattle.headline.proofs.Given.{given_fine}

module _ {Disk Why : Type 0} (s : Setting Disk Why) where
  abbrev pub ProcessFine : FileVersion → DeskId → List Ballot → Process Disk → Type 0
  ProcessFine v d theirs (Running k) = DeskFine (s.view d v) d theirs k
  ProcessFine v d theirs (Down votes disk) = Justified theirs votes × DiskFine (s.view d v) d theirs votes disk

  pub record NodeKept (v : FileVersion) (d : DeskId) (theirs : List Ballot) (x y : Process Disk) (out : List Message) : Type 0 where
    pub fine : ProcessFine v d theirs y
    pub grows : Within (process_votes x) (process_votes y)
    pub told : Each (OwnMessage d (process_votes y)) out

  module _ (v : FileVersion) (d : DeskId) (theirs : List Ballot) where
    pub fine_disk : (x : Process Disk) → ProcessFine v d theirs x → DiskFine (s.view d v) d theirs (process_votes x) (process_disk x)
    fine_disk x h0 = grind arith

    pub running : (x : Process Disk) (k : DeskState Disk) → x ≡ Running k → ProcessFine v d theirs x → DeskFine (s.view d v) d theirs k
    running x k e f = subst (ProcessFine v d theirs) e f

    loses_power : (x : Process Disk) (disk : Disk) → ProcessFine v d theirs x → LosesPower (s.view d v) (process_disk x) disk → DiskFine (s.view d v) d theirs (process_votes x) disk
    loses_power x disk h0 h1 = grind arith

    on_other_disk : (x : Process Disk) (disk : Disk) → Stays (s.view d v) (process_disk x) disk → ProcessFine v d theirs x → NodeKept v d theirs x (with_disk x disk) []
    on_other_disk x disk h0 h1 = grind arith

  module _ (d : DeskId) (theirs : List Ballot) (x : Node Disk) where
    abbrev KeptAt : Node Disk → List Message → Type 0
    KeptAt y out = NodeKept y.version d theirs x.process y.process out

    -- a running desk has gone on like this
    module _ (k l : DeskState Disk) (out : List Message) (e : x.process ≡ Running k) (h : DeskKept (s.view d x.version) d theirs k l out) where
      grown : Within (process_votes x.process) l.votes
      grown = rw e h.grows

      runs_on : (y : Node Disk) (due : Option Fault) → y ≡ record x { process = Running l; due = due } → KeptAt y out
      runs_on y due q = rw q (record { fine = h.fine; grows = grown; told = h.told })

      broken : (answer : Answer Why) (y : Node Disk) → Breaks (s.view d x.version) x l answer y → KeptAt y out
      broken answer y (Fail, u, p) = runs_on y None p.1
      broken answer y (Stop, u, p) =
          let disk = stays_fine (s.view d x.version) d theirs l.votes l.disk p.0 p.2 h.fine.disk in
          rw p.3 (record { fine = (h.fine.seat.justified, disk); grows = grown; told = h.told })

      after_pen : (told : PenAnswer Why) (answer : Answer Why) (y : Node Disk) → AfterPen (s.view d x.version) x told l answer y → KeptAt y out
      after_pen PenAnswer.DeviceFailed answer y p = broken answer y p
      after_pen _ answer y p = runs_on y x.due p.1

      after_receive : (told : ReceiveAnswer) (answer : Answer Why) (y : Node Disk) → AfterReceive (s.view d x.version) x told l out answer y → KeptAt y out
      after_receive ReceiveAnswer.DeviceFailed answer y p = broken answer y p
      after_receive _ answer y p = runs_on y x.due p.1

    -- likewise for a desk that is down
    module _ (votes : List Ballot) (old : Disk) (e : x.process ≡ Down votes old) (f : ProcessFine x.version d theirs x.process) where
      after_open : (opening : Opening Disk) (answer : Answer Why) (y : Node Disk) → Opens (s.view d x.version) s.rules d old opening
          → AfterOpen (s.view d x.version) x votes opening answer y → KeptAt y []
      after_open opening answer y h0 h1 = grind (arith, not_opened_keeps, opened_keeps)

      migrates_at : (version : FileVersion) (answer : Answer Why) (y : Node Disk) → x.version ≡ version → MigratesAt (s.view d) x version votes old answer y → KeptAt y []
      migrates_at version answer y q p = grind (arith, same)

  -- every event at a desk keeps it fine
  pub at_desk_keeps : (sent : List Message) (d : DeskId) (theirs : List Ballot) (event : Event) (x : Node Disk) (answer : Answer Why) (y : Node Disk) (out : List Message)
      → ((n : ℕ) (m : Message) → IsGiven sent n m → TheirMessage d theirs m) → ProcessFine x.version d theirs x.process
      → AtDesk s sent d event x answer y out → KeptAt d theirs x y out
  at_desk_keeps sent d theirs (Event.Pen c e) x answer y out t f p =
      let kept = pens_keep (s.view d x.version) d theirs s.rules p.0 p.1 e p.2 out (running x.version d theirs x.process p.0 p.3 f) p.4 in
      after_pen d theirs x p.0 p.1 out p.3 kept p.2 answer y p.5
  at_desk_keeps sent d theirs (Event.Give n u) x answer y out t f p =
      let kept = receives_keep (s.view d x.version) d theirs p.0 p.1 p.2 p.3 out (running x.version d theirs x.process p.0 p.4 f) (t n p.2 p.5) p.6 in
      after_receive d theirs x p.0 p.1 out p.4 kept p.3 answer y p.7
  at_desk_keeps sent d theirs (Event.Tick u) x answer y out t f p =
      let kept = ticks_keep (s.view d x.version) d theirs p.0 out (running x.version d theirs x.process p.0 p.1 f) p.2 in
      runs_on d theirs x p.0 p.0 out p.1 kept y x.due (p.4 ∙ ap (λ (z : Process Disk). record x { process = z }) p.1)
  at_desk_keeps sent d theirs (Event.Kill c) x answer y out t f p = grind (arith, stays_fine, fine_disk)
  at_desk_keeps sent d theirs (Event.Power c choice) x answer y out t f p = grind (arith, loses_power)
  at_desk_keeps sent d theirs (Event.Open c) x answer y out t f p = rw p.6 (after_open d theirs x p.0 p.1 p.3 f p.2 answer y p.4 p.5)
  at_desk_keeps sent d theirs (Event.Migrate c) x answer y out t f p = rw p.4 (migrates_at d theirs x p.0 p.1 p.2 f x.version answer y refl p.3)
  at_desk_keeps sent d theirs event x answer y out t f p = grind arith

  pub record Fine (w : Configuration Disk) : Type 0 where
    pub on_a : ProcessFine w.a.version A (all_votes w).b w.a.process
    pub on_b : ProcessFine w.b.version B (all_votes w).a w.b.process
    pub on_boards : Each (BoardFine (all_votes w)) w.boards
    pub on_sent : Each (MessageFine (all_votes w)) w.sent

  abbrev pub Grows : Configuration Disk → Configuration Disk → Type 0
  Grows w new = VotesGrow (all_votes w) (all_votes new)

  pub all_justified : (w : Configuration Disk) → Fine w → AllJustified (all_votes w)
  all_justified w f = grind arith

  process_grows : (v : FileVersion) (d : DeskId) (theirs theirs' : List Ballot) → Within theirs theirs' → (x : Process Disk) → ProcessFine v d theirs x → ProcessFine v d theirs' x
  process_grows v d theirs theirs' g (Down votes disk) f = grind (arith, justified_grows)
  process_grows v d theirs theirs' g (Running k) f = desk_grows (s.view d v) d theirs theirs' k g f

  pub their_message : (v : AllVotes) (d : DeskId) (m : Message) → MessageFine v m → TheirMessage d (votes_by v (other d)) m
  their_message v d m h0 = grind arith

  pub node_fine : (w : Configuration Disk) (d : DeskId) → Fine w → ProcessFine (node w d).version d (votes_by (all_votes w) (other d)) (node w d).process
  node_fine w d h0 = grind arith

  pub votes_at : (w : Configuration Disk) (d : DeskId) → votes_by (all_votes w) d ≡ process_votes (node w d).process
  votes_at w d = grind arith

  rest_grows : (v w : AllVotes) → VotesGrow v w → (sent out : List Message) → Each (MessageFine v) sent → Each (MessageFine w) out → Each (MessageFine w) (sent ++ out)
  rest_grows v w g sent out h k = grind (arith, each_append, each_other, message_grows)

  votes_grow : (w : Configuration Disk) (d : DeskId) (y : Node Disk) (out : List Message) → Within (process_votes (node w d).process) (process_votes y.process) → Grows w (with_node w d y out)
  votes_grow w A y out h = (h, same (all_votes w).b)
  votes_grow w B y out h = (same (all_votes w).a, h)

  node_changed : (w : Configuration Disk) (d : DeskId) (y : Node Disk) (out : List Message) → Fine w → KeptAt d (votes_by (all_votes w) (other d)) (node w d) y out
      → Fine (with_node w d y out) × Grows w (with_node w d y out)
  node_changed w d y out f k =
      let v = all_votes (with_node w d y out) in
      let g = votes_grow w d y out k.grows in
      let boards = each_other (BoardFine (all_votes w)) (BoardFine v) (board_grows (all_votes w) v g) w.boards f.on_boards in
      let told = each_other (OwnMessage d (process_votes y.process)) (MessageFine v) (λ m o. grind arith) out k.told in
      let sent = rest_grows (all_votes w) v g w.sent out f.on_sent told in
      (record { on_a = grind (arith, process_grows); on_b = grind (arith, process_grows); on_boards = grind arith; on_sent = grind arith }, g)

  at_board_keeps : (sent : List Message) (v : AllVotes) (event : Event) (k l : BoardState) (answer : Answer Why) (out : List Message) → Each (MessageFine v) sent → BoardFine v k
      → AtBoard s sent event k answer l out → BoardFine v l × Each (MessageFine v) out
  at_board_keeps sent v (Event.Give n t) k l answer out each f p =
      (board_receives_keeps s.rules v k l p.0 p.1 f (given_fine v sent n p.0 each p.2) p.3, subst (Each (MessageFine v)) (sym p.5) tt)
  at_board_keeps sent v event k l answer out h0 h1 h2 = grind (arith, board_asks, fresh_fine)

  pub step_at_keeps : (w : Configuration Disk) (event : Event) (t : Station) (answer : Answer Why) (new : Configuration Disk) → Fine w → StepAt s w event t answer new → Fine new × Grows w new
  step_at_keeps w event (Station.Desk d) answer new f p =
      let told : (n : ℕ) (m : Message) → IsGiven w.sent n m → TheirMessage d (votes_by (all_votes w) (other d)) m = λ n m e. their_message (all_votes w) d m (given_fine (all_votes w) w.sent n m f.on_sent e) in
      rw p.3 (node_changed w d p.0 p.1 f (at_desk_keeps w.sent d (votes_by (all_votes w) (other d)) event (node w d) answer p.0 p.1 told (node_fine w d f) p.2))
  step_at_keeps w event (Station.Board n) answer new f p =
      let v = all_votes w in
      let h = at_board_keeps w.sent v event p.0 p.1 answer p.2 f.on_sent (board_fine_at v w.boards n p.0 p.3 f.on_boards) p.4 in
      let boards = board_set (BoardFine v) w.boards n p.1 h.0 f.on_boards in
      rw p.5 (record { on_a = f.on_a; on_b = f.on_b; on_boards = boards; on_sent = each_append (MessageFine v) w.sent p.2 f.on_sent h.1 }, (same v.a, same v.b))

  pub step_keeps : (w : Configuration Disk) (event : Event) (answer : Answer Why) (new : Configuration Disk) → Fine w → Step s w event answer new → Fine new × Grows w new
  step_keeps w event answer new f p = step_at_keeps w event (station_of event) answer new f p

  pub run_keeps : (w : Configuration Disk) (ms : List (Moment Disk Why)) → Fine w → Run s w ms → Fine (last_of w ms)
  run_keeps w [] f r = f
  run_keeps w (m ∷ ms) f r = (step_keeps (last_of w ms) m.event m.answer m.after (run_keeps w ms f r.0) r.1).0

  pub begins_fine : (version : FileVersion) (n : ℕ) (w : Configuration Disk) → Begins s version n w → Fine w
  begins_fine version n w p =
      record {
        on_a = grind arith;
        on_b = grind arith;
        on_boards = subst (Each (BoardFine (all_votes w))) (sym p.boards_are_fresh) (fresh_boards_are (BoardFine (all_votes w)) (fresh_fine (all_votes w)) n);
        on_sent = subst (Each (MessageFine (all_votes w))) (sym p.nothing_sent) tt;
      }
