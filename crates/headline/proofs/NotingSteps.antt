-- What each event leaves of the votes that a station keeps.
use Rattle.std.proofs.Common.{arith, ◌≡◌, ◌≢◌, ℕ, Option, Some, None, option_map, option_and_then, List, [], ◌∷◌, refl, sym, ap, ◌∙◌, subst, inl, inr}
use Rattle.std.specs.Prelude.{slice_get}
use Rattle.notation.specs.declared.entry.Entry.{Entry}
use Rattle.agree_core.specs.declared.{messages.DeskId.DeskId, messages.Message.Message, messages.Vote.Vote, position.Position.Position, seat.Settled.Settled}
use Rattle.agree_core.specs.Ballots.{Ballot, vote_of, votes_by}
use Rattle.agree_core.specs.Boards.{BoardAnswer, BoardReceives, BoardState}
use Rattle.agree_core.specs.Books.{seat_of}
use Rattle.agree_core.specs.Desks.{DeskState, PenAnswer, Pens, ReceiveAnswer, Receives}
use Rattle.agree_core.specs.Openings.{Opening, Opens}
use Rattle.agree_core.specs.Positions.{position_of}
use Rattle.agree_core.specs.Readers.{noted_of, other}
use Rattle.agree_core.specs.Seats.{Casts, SeatState}
use Rattle.headline.specs.Given.{IsGiven}
use Rattle.headline.proofs.Given.{given_vote}
use Rattle.headline.specs.declared.{event.Event.Event, event.Station.Station}
use Rattle.headline.specs.Events.{station_of}
use Rattle.headline.specs.Setting.{Setting}
use Rattle.headline.specs.Configurations.{Process, Running, Down, Node, Configuration, board_at, node, process_disk, all_votes, with_node}
use Rattle.headline.specs.Answers.{Answer, board_told}
use Rattle.headline.specs.DeskSteps.{AtDesk}
use Rattle.headline.specs.BoardSteps.{AtBoard}
use Rattle.headline.specs.Runs.{Moment}
use Rattle.headline.specs.Noted.{Brings, IsBrought, IsFound, IsVoteAnswer, beginning_of, position_at, process_position}
use Rattle.headline.specs.DeskAnswers.{AfterOpen, AfterPen, AfterReceive}
use Rattle.headline.specs.KeptVotes.{kept_at, kept_by_process, kept_by_seat}
use Rattle.headline.proofs.Heeding.{Heeds, Reads, heeds, reads}
use Rattle.headline.proofs.Heeding.{noting_at, noting_there, other_not}
use Rattle.headline.proofs.Keeping.{Fine, running, node_fine}
use Rattle.headline.proofs.Noting.{Begun, Leaves, More, Same}

module _ {Disk Why : Type 0} (s : Setting Disk Why) where
  -- the station is at this position and keeps these votes
  abbrev SeenAt : Configuration Disk → Station → Position → (DeskId → Option Entry) → Type 0
  SeenAt w t at kept = (position_at w t ≡ Some at) × ((c : DeskId) → kept_at w t c ≡ kept c)

  abbrev pub SameAt : Configuration Disk → Configuration Disk → Station → Type 0
  SameAt w new t = (position_at new t ≡ position_at w t) × ((c : DeskId) → kept_at new t c ≡ kept_at w t c)

  pub same_process : (w new : Configuration Disk) (d : DeskId) → (node new d).process ≡ (node w d).process → SameAt w new (Station.Desk d)
  same_process w new d e = (ap process_position e, λ c. ap (λ (x : Process Disk). kept_by_process x d c) e)

  pub same_board : (w new : Configuration Disk) (n : ℕ) → board_at new.boards n ≡ board_at w.boards n → SameAt w new (Station.Board n)
  same_board w new n e = (ap (option_map (λ (k : BoardState). k.reader.position)) e, λ c. ap (option_and_then (λ (k : BoardState). noted_of k.reader c)) e)

  at_desk : (w : Configuration Disk) (d : DeskId) (k : DeskState Disk) → (node w d).process ≡ Running k → SeenAt w (Station.Desk d) k.seat.position (λ c. kept_by_seat k.seat d c)
  at_desk w d k e = (ap process_position e, λ c. ap (λ (x : Process Disk). kept_by_process x d c) e)

  at_board : (w : Configuration Disk) (n : ℕ) (k : BoardState) → board_at w.boards n ≡ Some k → SeenAt w (Station.Board n) k.reader.position (λ c. noted_of k.reader c)
  at_board w n k e = (ap (option_map (λ (k : BoardState). k.reader.position)) e, λ c. ap (option_and_then (λ (k : BoardState). noted_of k.reader c)) e)

  -- the desk's node is the one that was put there
  pub there : (w new : Configuration Disk) (d : DeskId) (y : Node Disk) (out : List Message) → new ≡ with_node w d y out → node new d ≡ y
  there w new d y out e = grind arith

  module _ (w : Configuration Disk) (m : Moment Disk Why) where
    pub elsewhere : (t : Station) → station_of m.event ≢ t → SameAt w m.after t → Leaves s w m t
    elsewhere t n h = Same (grind arith)

    -- a desk runs on, from one seat to another
    record Runs (d : DeskId) (k l : SeatState) : Type 0 where
      pub on : m.event ≢ Event.Open d
      pub from : SeenAt w (Station.Desk d) k.position (λ c. kept_by_seat k d c)
      pub to : SeenAt m.after (Station.Desk d) l.position (λ c. kept_by_seat l d c)

    runs_same : (d : DeskId) (k l : SeatState) → Runs d k l → l ≡ k
        → ((c : DeskId) (b : Ballot) → IsBrought w m (Station.Desk d) c b → kept_by_seat k d c ≡ None → ⊥) → Leaves s w m (Station.Desk d)
    runs_same d k l h0 h1 h2 = grind arith

    runs_far : (d : DeskId) (k l : SeatState) → Runs d k l → k.position ≢ l.position → l.mine ≡ None → l.theirs ≡ None → Leaves s w m (Station.Desk d)
    runs_far d k l h0 h1 h2 h3 = grind arith

    casts : (d : DeskId) (k l : SeatState) (e : Entry) (settled : Settled) → Runs d k l → m.event ≡ Event.Pen d e → IsVoteAnswer m.answer → k.mine ≡ None
        → Casts k e settled l → Leaves s w m (Station.Desk d)
    casts d k l e Settled.Pending r p i none c = More d (record { at = k.position; entry = e }) (grind (arith, other_not))
    casts d k l e h4 r p i none c = grind arith

    heeded : (n : ℕ) (d : DeskId) (k l : SeatState) (v : Vote) → m.event ≡ Event.Give n (Station.Desk d) → k.desk ≡ d → Runs d k l
        → slice_get w.sent n ≡ Some (Message.Vote v) → IsVoteAnswer m.answer → Heeds k v l → Leaves s w m (Station.Desk d)
    heeded n d k l v given desk r sent told (inl p) = runs_same d k l r p.0 (λ c b i none. grind arith)
    heeded n d k l v given desk r sent told (inr (inl p)) = More v.desk (record { at = k.position; entry = v.entry }) (grind (arith, other_not))
    heeded n d k l v given desk r sent told (inr (inr p)) = runs_far d k l r p.0 p.1 p.2

    -- the node put at desk d runs with this seat, or is down
    module _ (d : DeskId) (y : Node Disk) (is : node m.after d ≡ y) where
      runs_from : (k l : DeskState Disk) → m.event ≢ Event.Open d → (node w d).process ≡ Running k → y.process ≡ Running l → Runs d k.seat l.seat
      runs_from k l n p q = record { on = n; from = at_desk w d k p; to = at_desk m.after d l (ap (λ (z : Node Disk). z.process) is ∙ q) }

      pens : (k l : DeskState Disk) (e : Entry) (told : PenAnswer Why) (out : List Message) → m.event ≡ Event.Pen d e → (node w d).process ≡ Running k
          → Pens (s.view d (node w d).version) s.rules k e told l out → AfterPen (s.view d (node w d).version) (node w d) told l m.answer y → Leaves s w m (Station.Desk d)
      pens k l e (PenAnswer.Penned settled) out p q r a =
          casts d k.seat l.seat e settled (runs_from k l (λ x. cc) q (ap (λ (z : Node Disk). z.process) a.1)) p (subst IsVoteAnswer (sym a.0) tt) r.0.0.1 r.1.0
      pens k l e h3 out p q r a = grind arith

      given : (n : ℕ) (k l : DeskState Disk) (v : Message) (told : ReceiveAnswer) (out : List Message) → m.event ≡ Event.Give n (Station.Desk d) → k.seat.desk ≡ d
          → (node w d).process ≡ Running k → IsGiven w.sent n v → Receives (s.view d (node w d).version) k v told l out
          → AfterReceive (s.view d (node w d).version) (node w d) told l out m.answer y → Leaves s w m (Station.Desk d)
      given n k l (Message.Vote v) (ReceiveAnswer.Told h) out p desk q sent r a =
          heeded n d k.seat l.seat v p desk (runs_from k l (λ x. cc) q (ap (λ (z : Node Disk). z.process) a.1)) (given_vote w.sent n v sent) (subst IsVoteAnswer (sym a.0) tt) (heeds k.seat l.seat v h r.1)
      given n k l v h4 out p desk q sent r a = grind arith

      -- a desk that is opened keeps its last vote alone
      opens : (k : DeskState Disk) (votes : List Ballot) (n : ℕ) → m.event ≡ Event.Open d → y.process ≡ Running k → k.seat ≡ seat_of d votes → m.answer ≡ Answer.Opened n
          → (s.view d (node w d).version).reads (process_disk (node w d).process) ≡ Some votes → Leaves s w m (Station.Desk d)
      opens k [] n opened p seat told found = Begun (opened, λ c b at. (λ q. grind (arith, none), λ q. grind arith))
        where
          none : (c : DeskId) → kept_at m.after (Station.Desk d) c ≡ None
          none c = grind (arith, at_desk)
      opens k (v ∷ rest) n opened p seat told found =
          Begun (opened, λ c b at. (λ q. let same = is_last c b at q in rw (same.0, same.1) (refl, (opened, (n, told), (rest, found))), λ q. grind (arith, own)))
        where
          own : kept_at m.after (Station.Desk d) d ≡ Some v.entry
          own = grind arith

          is_last : (c : DeskId) (b : Ballot) → position_at m.after (Station.Desk d) ≡ Some b.at → kept_at m.after (Station.Desk d) c ≡ Some b.entry → (c ≡ d) × (b ≡ v)
          is_last c b q e = grind (arith, own, other_not)

      opened : (votes : List Ballot) (disk : Disk) (opening : Opening Disk) → m.event ≡ Event.Open d → (node w d).process ≡ Down votes disk
          → Opens (s.view d (node w d).version) s.rules d disk opening → AfterOpen (s.view d (node w d).version) (node w d) votes opening m.answer y → Leaves s w m (Station.Desk d)
      opened votes disk opening h0 h1 h2 h3 = grind (arith, opens)

    -- what a step leaves at a desk
    pub desk_leaves : (d : DeskId) (event : Event) (y : Node Disk) (out : List Message) → Fine s w → m.event ≡ event → station_of event ≡ Station.Desk d → node m.after d ≡ y
        → AtDesk s w.sent d event (node w d) m.answer y out → Leaves s w m (Station.Desk d)
    desk_leaves d (Event.Pen c e) y out f q h t p = let same : c ≡ d = cc in pens d y t p.0 p.1 e p.2 out (q ∙ ap (λ (x : DeskId). Event.Pen x e) same) p.3 p.4 p.5
    desk_leaves d (Event.Give n u) y out f q h t p =
        let fine = running s (node w d).version d (votes_by (all_votes w) (other d)) (node w d).process p.0 p.4 (node_fine s w d f) in
        let seat = fine.seat in
        given d y t n p.0 p.1 p.2 p.3 out (q ∙ ap (Event.Give n) h) seat.desk p.4 p.5 p.6 p.7
    desk_leaves d h1 y out f q h t p = grind (arith, opened)

    -- what a step leaves at a board
    module _ (n : ℕ) (k l : BoardState) (here : board_at w.boards n ≡ Some k) (is : board_at m.after.boards n ≡ Some l) where
      board_stays : m.event ≢ Event.Wipe n → l.reader ≡ k.reader → ((c : DeskId) (b : Ballot) → IsBrought w m (Station.Board n) c b → noted_of k.reader c ≡ None → ⊥)
          → Leaves s w m (Station.Board n)
      board_stays h0 h1 h2 = grind arith

      read : (i : ℕ) (v : Vote) → m.event ≡ Event.Give i (Station.Board n) → slice_get w.sent i ≡ Some (Message.Vote v) → IsVoteAnswer m.answer
          → Reads k.reader v l.reader → Leaves s w m (Station.Board n)
      read i v given sent told (inl r) = board_stays (λ e. cc) r.0 (λ c b j none. grind (arith, at_board))
      read i v given sent told (inr (inl r)) = More v.desk (record { at = k.reader.position; entry = v.entry }) (grind (arith, at_board, noting_at, noting_there))
      read i v given sent told (inr (inr r)) = grind (arith, at_board)

      board_given : (i : ℕ) (v : Message) (told : BoardAnswer) → m.event ≡ Event.Give i (Station.Board n) → IsGiven w.sent i v → m.answer ≡ board_told told
          → BoardReceives s.rules k v told l → Leaves s w m (Station.Board n)
      board_given i (Message.Vote v) (BoardAnswer.Told h) given sent a r = read i v given (given_vote w.sent i v sent) (subst IsVoteAnswer (sym a) tt) (reads k.reader l.reader v h r.0)
      board_given i h1 h2 given sent a r = grind arith

    pub board_leaves : (n : ℕ) (event : Event) (k l : BoardState) (out : List Message) → m.event ≡ event → station_of event ≡ Station.Board n
        → board_at w.boards n ≡ Some k → board_at m.after.boards n ≡ Some l → AtBoard s w.sent event k m.answer l out → Leaves s w m (Station.Board n)
    board_leaves n (Event.Give i u) k l out e h p q r = board_given n k l p q i r.0 r.1 (e ∙ ap (Event.Give i) h) r.2 r.4 r.3
    board_leaves n h1 k l out e h p q r = grind arith
