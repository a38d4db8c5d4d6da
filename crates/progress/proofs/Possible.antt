-- If both desks are up, an exchange can always happen.
use Rattle.std.proofs.Common.{◌≡◌, ◌≢◌, ◌⊎◌, ◌<◌, ◌≤◌, ◌+◌, ◌-◌, ℕ, zero, suc, Option, Some, None, List, [], ◌∷◌, ◌++◌, length, length-append, append_assoc, refl, sym, ap, ◌∙◌, subst, inl, inr, arith}
use Rattle.std.specs.Prelude.{slice_get}
use Rattle.notation.specs.declared.entry.Entry.{Entry}
use Rattle.agree_core.specs.declared.{messages.Asker.Asker, messages.DeskId.DeskId, messages.Message.Message, messages.Vote.Vote, seat.Heard.Heard}
use Rattle.agree_core.specs.declared.messages.DeskId.TheVariants.{A, B}
use Rattle.agree_core.specs.Ballots.{AllVotes, ballot_at, vote_of}
use Rattle.agree_core.specs.Desks.{ReceiveAnswer, Replies, Ticks, ask_for, ask_other, asker, book_heard, own_vote}
use Rattle.agree_core.specs.FileView.{FileView, Stays}
use Rattle.agree_core.specs.Positions.{next_place, next_round, position_of}
use Rattle.agree_core.specs.Boards.{BoardAnswer, BoardReceives, BoardState, BoardTicks}
use Rattle.agree_core.specs.Readers as readers
use Rattle.agree_core.specs.Readers.{Listens, ReaderState, noted_of, other, reading}
use Rattle.progress.proofs.BoardTrips.{board_goes}
use Rattle.agree_core.specs.Seats.{Hears, SeatState, noting, waiting}
use Rattle.headline.specs.declared.{event.Event.Event, event.Station.Station}
use Rattle.headline.specs.Answers.{Asked, Ticked, Told, board_told}
use Rattle.headline.specs.Configurations.{Configuration, Running, all_votes, board_at, node, with_board, with_node}
use Rattle.headline.proofs.Keeping.{Fine}
use Rattle.agree_core.proofs.Order.{compare}
use Rattle.headline.specs.DeskAnswers.{has_any}
use Rattle.headline.specs.Runs.{Moment, Run, last_of}
use Rattle.headline.specs.Setting.{Setting}
use Rattle.headline.specs.Steps.{Step}
use Rattle.progress.specs.CalmMoments.{IsCalm}
use Rattle.progress.specs.Exchange.{Amid, Exchange, HandsOut, HasExchanges, IsAnswered, Reaches}
use Rattle.progress.specs.Progress.{MayHear}
use Rattle.progress.proofs.Exchanges.{in_range_or_full}
use Rattle.progress.proofs.CalmRuns.{CalmRun, Steady, ends, join, last_split, run_keeps_sent}
use Rattle.progress.proofs.CaughtUp.{voted_or_not}
use Rattle.progress.proofs.Settled.{steady}
use Rattle.progress.proofs.Near.{ordered}
use Rattle.progress.proofs.Rounds.{same_entry}

same_desk : (c d : DeskId) → (c ≡ d) ⊎ (c ≢ d)
same_desk h0 h1 = grind arith

-- a seat has some next state for each vote
hears : (s : SeatState) (v : Vote) → (h : Heard) × (t : SeatState) × Hears s v h t
hears s v = elim (same_desk v.desk s.desk) [
  | inl e ↦ (Heard.Mine, s, (e, refl))
  | inr n ↦ elim (ordered (position_of v) s.position) [
    | inr (inl b) ↦ (Heard.Old, s, (n, b, refl))
    | inr (inr b) ↦ (Heard.Ahead, s, (n, b, refl))
    | inl at ↦ now n at s.theirs s.mine refl refl
  ]
]
  where
    now : v.desk ≢ s.desk → position_of v ≡ s.position → (theirs mine : Option Entry) → s.theirs ≡ theirs → s.mine ≡ mine → (h : Heard) × (t : SeatState) × Hears s v h t
    now n at (Some f) mine q m = elim (same_entry v.entry f) [
      | inl e ↦ (Heard.Again, s, ((n, at), q ∙ ap Some (sym e), refl))
      | inr d ↦ (Heard.TwoVotes, s, ((n, at), (f, q, d), refl))
    ]
    now n at None None q m = (Heard.Noted, noting s v.entry, ((n, at), q, m, refl))
    now n at None (Some e) q m = elim (same_entry v.entry e) [
      | inl z ↦ (Heard.Agreed, waiting s.desk (next_place s.position), ((n, at), q, m ∙ ap Some (sym z), refl))
      | inr d ↦ (Heard.Differ, waiting s.desk (next_round s.position), ((n, at), q, (e, m, d), refl))
    ]

-- likewise for a board's reader
listens : (r : ReaderState) (v : Vote) → ((h : Heard) × (t : ReaderState) × Listens r v h t × (h ≢ Heard.Agreed)) ⊎ ((t : ReaderState) × Listens r v Heard.Agreed t)
listens r v = elim (ordered (position_of v) r.position) [
  | inr (inl b) ↦ inl (Heard.Old, r, (b, refl), λ e. cc)
  | inr (inr b) ↦ inl (Heard.Ahead, r, (b, refl), λ e. cc)
  | inl at ↦ now at (noted_of r v.desk) (noted_of r (other v.desk)) refl refl
]
  where
    now : position_of v ≡ r.position → (own theirs : Option Entry) → noted_of r v.desk ≡ own → noted_of r (other v.desk) ≡ theirs
        → ((h : Heard) × (t : ReaderState) × Listens r v h t × (h ≢ Heard.Agreed)) ⊎ ((t : ReaderState) × Listens r v Heard.Agreed t)
    now at (Some f) theirs q m = elim (same_entry v.entry f) [
      | inl e ↦ inl (Heard.Again, r, (at, q ∙ ap Some (sym e), refl), λ e. cc)
      | inr d ↦ inl (Heard.TwoVotes, r, (at, (f, q, d), refl), λ e. cc)
    ]
    now at None None q m = inl (Heard.Noted, readers.noting r v.desk v.entry, (at, q, m, refl), λ e. cc)
    now at None (Some e) q m = elim (same_entry v.entry e) [
      | inl z ↦ inr (reading (next_place r.position), (at, q, m ∙ ap Some (sym z), refl))
      | inr d ↦ inl (Heard.Differ, reading (next_round r.position), (at, q, (e, m, d), refl), λ e. cc)
    ]

pub stays : {Disk : Type 0} → (view : FileView Disk) (disk : Disk) → Stays view disk disk
stays view disk = (refl, λ image. (λ i. i, λ i. i))

get_some : {X : Type 0} → (xs : List X) (n : ℕ) → n < length xs → (x : X) × (slice_get xs n ≡ Some x)
get_some [] n less = absurd (omega (arith, less))
get_some (x ∷ xs) zero less = (x, refl)
get_some (x ∷ xs) (suc n) less = get_some xs n (omega (arith, less))

get_less : {X : Type 0} → (xs : List X) (n : ℕ) (x : X) → slice_get xs n ≡ Some x → n < length xs
get_less (z ∷ zs) (suc n) x e = let less = get_less zs n x e in omega (arith, less)
get_less h0 n x e = grind arith

module _ {Disk Why : Type 0} where
  -- a message that reaches the station in some moments reaches it in more of them
  pub given_more : (w : Configuration Disk) (t : Station) (message : Message) (xs ys : List (Moment Disk Why)) → Reaches w t message ys → Reaches w t message (xs ++ ys)
  given_more w t message [] ys g = g
  given_more w t message (x ∷ xs) ys g = inr (given_more w t message xs ys g)

  -- a moment stays amid moments when others are added before or after them
  amid_before : (ms before : List (Moment Disk Why)) → Amid ms → Amid (ms ++ before)
  amid_before ms before at = record {
    later = at.later;
    moment = at.moment;
    earlier = at.earlier ++ before;
    whole = ap (λ (z : List (Moment Disk Why)). z ++ before) at.whole ∙ append_assoc at.later (at.moment ∷ at.earlier) before;
  }

  answered_after : (w : Configuration Disk) (t : Station) (d : DeskId) (message : Message) (after ms : List (Moment Disk Why)) → IsAnswered w t d message ms
      → IsAnswered w t d message (after ++ ms)
  answered_after w t d message after ms x = record {
    at = record { later = after ++ x.at.later; moment = x.at.moment; earlier = x.at.earlier; whole = ap (λ (z : List (Moment Disk Why)). after ++ z) x.at.whole ∙ sym (append_assoc after x.at.later (x.at.moment ∷ x.at.earlier)) };
    given = x.given;
    heard = λ r h. given_more x.at.moment.after t r after x.at.later (x.heard r h);
  }

  pub exchange_before : (w : Configuration Disk) (t : Station) (d : DeskId) (ms before : List (Moment Disk Why)) → Exchange (last_of w before) t d ms → Exchange w t d (ms ++ before)
  unfolding amid_before
  exchange_before w t d ms before x = record {
    at = amid_before ms before x.at;
    ticks = x.ticks;
    answered = λ message h.
        x.answered message (subst (λ (z : Configuration Disk). HandsOut z x.at.moment message) (last_split w x.at.earlier before) h);
  }

  pub exchange_after : (w : Configuration Disk) (t : Station) (d : DeskId) (after ms : List (Moment Disk Why)) → Exchange w t d ms → Exchange w t d (after ++ ms)
  exchange_after w t d after ms x = record {
    at = record { later = after ++ x.at.later; moment = x.at.moment; earlier = x.at.earlier; whole = ap (λ (z : List (Moment Disk Why)). after ++ z) x.at.whole ∙ sym (append_assoc after x.at.later (x.at.moment ∷ x.at.earlier)) };
    ticks = x.ticks;
    answered = λ message h. answered_after x.at.moment.after t d message after x.at.later (x.answered message h);
  }

module _ {Disk Why : Type 0} (s : Setting Disk Why) (v : AllVotes) where
  -- a possible moment of this event
  abbrev Comes : Configuration Disk → Event → Type 0
  Comes w event = (m : Moment Disk Why) × (m.event ≡ event) × Step s w m.event m.answer m.after

  ticks : (w : Configuration Disk) → Steady s v w → (d : DeskId) → Comes w (Event.Tick (Station.Desk d))
  ticks w st d =
      let k = (st.up d).0 in
      let u = (st.up d).1 in
      let out : (out : List Message) × Ticks k out = elim (in_range_or_full k.seat.position) [
        | inl r ↦ (own_vote k.seat.desk k.seat.position k.seat.mine ++ ask_other (asker k.seat.desk) k.seat.position k.seat.theirs, inl (u.sound, r, refl))
        | inr f ↦ ([], inr (inr f, refl))
      ] in
      (record { event = Event.Tick (Station.Desk d); answer = Ticked (length out.0); after = with_node w d (node w d) out.0 }, refl, (node w d, out.0, (k, u.runs, out.1, refl, refl), refl))

  gives : (w : Configuration Disk) → Steady s v w → (d : DeskId) (n : ℕ) (m : Message) → slice_get w.sent n ≡ Some m → Comes w (Event.Give n (Station.Desk d))
  gives w st d n (Message.Vote x) get =
      let k = (st.up d).0 in
      let u = (st.up d).1 in
      let h = hears k.seat x in
      let l = record k { seat = h.1; book = book_heard h.0 k.book x.entry } in
      let y = record (node w d) { process = Running l } in (
        record { event = Event.Give n (Station.Desk d); answer = Told h.0; after = with_node w d y [] },
        refl,
        (y, [], (k, l, Message.Vote x, ReceiveAnswer.Told h.0, u.runs, inl get, (u.sound, h.2, stays (s.view d (node w d).version) k.disk, refl, refl), (refl, refl)), refl),
      )
  gives w st d n (Message.Ask q) get =
      let k = (st.up d).0 in
      let u = (st.up d).1 in
      let y = record (node w d) { process = Running k } in
      let out : (out : List Message) × Replies k q out = elim (voted_or_not k.votes (record { place = q.place; round = q.round })) [
        | inl h ↦ (Message.Vote (vote_of k.seat.desk (ballot_at q.place q.round h.0)) ∷ [], inl (h.0, h.1, refl))
        | inr none ↦ ([], inr (none, refl))
      ] in (
        record { event = Event.Give n (Station.Desk d); answer = Asked (has_any out.0); after = with_node w d y out.0 },
        refl,
        (y, out.0, (k, k, Message.Ask q, ReceiveAnswer.Asked, u.runs, inl get, (u.sound, (stays (s.view d (node w d).version) k.disk, refl), out.1), (refl, refl)), refl),
      )

  ticks_board : (w : Configuration Disk) (n : ℕ) (k : BoardState) → board_at w.boards n ≡ Some k → Comes w (Event.Tick (Station.Board n))
  ticks_board w n k at =
      let out : (out : List Message) × BoardTicks k out = elim (in_range_or_full k.reader.position) [
        | inl r ↦ (ask_for Asker.Board k.reader.position ∷ [], inl (r, refl))
        | inr f ↦ ([], inr (f, refl))
      ] in (
        record { event = Event.Tick (Station.Board n); answer = Ticked (length out.0); after = record w { boards = with_board w.boards n k; sent = w.sent ++ out.0 } },
        refl,
        (k, k, out.0, at, (out.1, refl, refl), refl),
      )

  gives_board : (w : Configuration Disk) (n : ℕ) (k : BoardState) → board_at w.boards n ≡ Some k → (i : ℕ) (m : Message) → slice_get w.sent i ≡ Some m
      → Comes w (Event.Give i (Station.Board n))
  gives_board w n k at i m get = made (receives k m)
    where
      made : ((l : BoardState) × (told : BoardAnswer) × BoardReceives s.rules k m told l) → Comes w (Event.Give i (Station.Board n))
      made (l, told, r) = (
        record { event = Event.Give i (Station.Board n); answer = board_told told; after = record w { boards = with_board w.boards n l; sent = w.sent ++ [] } },
        refl,
        (k, l, [], at, (m, told, inl get, r, refl, refl), refl),
      )

      receives : (k : BoardState) (m : Message) → (l : BoardState) × (told : BoardAnswer) × BoardReceives s.rules k m told l
      receives k (Message.Ask q) = (k, BoardAnswer.Asked, refl)
      receives k (Message.Vote x) = elim (listens k.reader x) [
        | inl h ↦ (record { reader = h.1; book = book_heard h.0 k.book x.entry }, BoardAnswer.Told h.0, (h.2, (λ e. absurd (h.3 e)), refl))
        | inr h ↦ taken h.0 h.1 (s.rules k.book x.entry) refl
      ]
        where
          taken : (r : ReaderState) → Listens k.reader x Heard.Agreed r → (why : Option Why) → s.rules k.book x.entry ≡ why
              → (l : BoardState) × (told : BoardAnswer) × BoardReceives s.rules k (Message.Vote x) told l
          taken r c None e = (record { reader = r; book = k.book ++ x.entry ∷ [] }, BoardAnswer.Told Heard.Agreed, (c, (λ q. e), refl))
          taken r c (Some why) e = (k, BoardAnswer.BadVotes k.reader.position.place, ((r, c), (λ q. absurd (grind (arith, e, q))), refl, refl))

  -- the station exists
  abbrev Ready : Station → Configuration Disk → Type 0
  Ready (Station.Desk d) w = Unit {0}
  Ready (Station.Board n) w = (k : BoardState) × (board_at w.boards n ≡ Some k)

  ready_after : (w : Configuration Disk) (ms : List (Moment Disk Why)) (t : Station) → CalmRun s v w ms → Ready t w → Ready t (last_of w ms)
  ready_after w ms (Station.Desk d) r h = tt
  ready_after w ms (Station.Board n) r h = let g = board_goes s w ms r.run r.calm n h.0 h.1 in (g.0, g.1)

  given : (w : Configuration Disk) → Steady s v w → (t : Station) → Ready t w → (i : ℕ) (m : Message) → slice_get w.sent i ≡ Some m → Comes w (Event.Give i t)
  given w st (Station.Desk d) h i m get = gives w st d i m get
  given w st (Station.Board n) h i m get = gives_board w n h.0 h.1 i m get

  ticked : (w : Configuration Disk) → Steady s v w → (t : Station) → Ready t w → Comes w (Event.Tick t)
  ticked w st (Station.Desk d) h = ticks w st d
  ticked w st (Station.Board n) h = ticks_board w n h.0 h.1

  -- possible calm moments with this property
  pub record SomeMoments (w : Configuration Disk) (P : List (Moment Disk Why) → Type 0) : Type 0 where
    pub ms : List (Moment Disk Why)
    pub goes : CalmRun s v w ms
    pub so : P ms

  -- one possible moment of a calm event
  one_moment : (w : Configuration Disk) (event : Event) → Steady s v w → IsCalm event → (m : Comes w event) → CalmRun s v w (m.0 ∷ [])
  one_moment w event st calm m = record { begins = st; run = (tt, m.2); calm = (tt, subst IsCalm (sym m.1) calm) }

  sent_stays : (w : Configuration Disk) (ms : List (Moment Disk Why)) → Run s w ms → length w.sent ≤ length (last_of w ms).sent
  sent_stays w [] r = omega arith
  sent_stays w (m ∷ ms) r = grind (arith, length-append, (sent_stays w ms r.0))

  -- the station is given all messages of these numbers
  all_given : (w : Configuration Disk) → Steady s v w → (t : Station) → Ready t w → (from many : ℕ) → from + many ≤ length w.sent
      → SomeMoments w (λ ms. (message : Message) (r : ℕ) → from ≤ r → r < from + many → slice_get w.sent r ≡ Some message → Reaches w t message ms)
  all_given w st t ready from zero less = record { ms = []; goes = record { begins = st; run = tt; calm = tt }; so = λ message r a b get. absurd (omega (arith, a, b)) }
  all_given w st t ready from (suc many) less =
      let before = all_given w st t ready from many (omega (arith, less)) in
      let mid = ends s v w before.ms before.goes in
      let last = from + many in
      let long = sent_stays w before.ms before.goes.run in
      let got = get_some (last_of w before.ms).sent last (omega (arith, less, long)) in
      let m = given (last_of w before.ms) mid t (ready_after w before.ms t before.goes ready) last got.0 got.1 in
      record {
        ms = m.0 ∷ before.ms;
        goes = join s v w (m.0 ∷ []) before.ms before.goes (one_moment (last_of w before.ms) (Event.Give last t) mid tt m);
        so = λ message r a b get. elim (compare r last) [
          | inl lo ↦ inr (before.so message r a lo get)
          | inr (inl e) ↦ inl (last, m.1, run_keeps_sent s w before.ms last message before.goes.run (subst (λ (z : ℕ). slice_get w.sent z ≡ Some message) e get))
          | inr (inr hi) ↦ absurd {A = Reaches w t message (m.0 ∷ before.ms)} (omega (arith, b, hi))
        ];
      }

  -- the desk is given all messages of these numbers, and the station what the desk answers
  all_answered : (w : Configuration Disk) → Steady s v w → (t : Station) → Ready t w → (d : DeskId) (from many : ℕ) → from + many ≤ length w.sent
      → SomeMoments w (λ ms. (message : Message) (n : ℕ) → from ≤ n → n < from + many → slice_get w.sent n ≡ Some message → IsAnswered w t d message ms)
  all_answered w st t ready d from zero less = record { ms = []; goes = record { begins = st; run = tt; calm = tt }; so = λ message n a b get. absurd (omega (arith, a, b)) }
  all_answered w st t ready d from (suc many) less =
      let before = all_answered w st t ready d from many (omega (arith, less)) in
      let last = from + many in
      let c1 = last_of w before.ms in
      let mid = ends s v w before.ms before.goes in
      let long = sent_stays w before.ms before.goes.run in
      let got = get_some c1.sent last (omega (arith, less, long)) in
      let m = gives c1 mid d last got.0 got.1 in
      let one = one_moment c1 (Event.Give last (Station.Desk d)) mid tt m in
      let first = length c1.sent in
      let end = length m.0.after.sent in
      let more : first ≤ end = sent_stays c1 (m.0 ∷ []) one.run in
      let near = ready_after w before.ms t before.goes ready in
      let replies = all_given m.0.after (ends s v c1 (m.0 ∷ []) one) t (ready_after c1 (m.0 ∷ []) t one near) first (end - first) (omega (arith, more)) in
      record {
        ms = replies.ms ++ (m.0 ∷ before.ms);
        goes = join s v w replies.ms (m.0 ∷ before.ms) (join s v w (m.0 ∷ []) before.ms before.goes one) replies.goes;
        so = λ message n a b get. elim (compare n last) [
          | inl lo ↦
              answered_after w t d message replies.ms (m.0 ∷ before.ms) (answered_after w t d message (m.0 ∷ []) before.ms (before.so message n a lo get))
          | inr (inl e) ↦ record {
            at = record { later = replies.ms; moment = m.0; earlier = before.ms; whole = refl };
            given = (last, m.1, run_keeps_sent s w before.ms last message before.goes.run (subst (λ (z : ℕ). slice_get w.sent z ≡ Some message) e get));
            heard = λ reply h. replies.so reply h.0 h.1 (let less = get_less m.0.after.sent h.0 reply h.2 in omega (arith, less, more)) h.2;
          }
          | inr (inr hi) ↦ absurd {A = IsAnswered w t d message (replies.ms ++ (m.0 ∷ before.ms))} (omega (arith, b, hi))
        ];
      }

  exchange : (w : Configuration Disk) → Steady s v w → (t : Station) → Ready t w → (d : DeskId) → SomeMoments w (λ ms. Exchange w t d ms)
  exchange w st t ready d =
      let m = ticked w st t ready in
      let first = length w.sent in
      let end = length m.0.after.sent in
      let one = one_moment w (Event.Tick t) st tt m in
      let more : first ≤ end = sent_stays w (m.0 ∷ []) one.run in
      let x = all_answered m.0.after (ends s v w (m.0 ∷ []) one) t (ready_after w (m.0 ∷ []) t one ready) d first (end - first) (omega (arith, more)) in
      record {
        ms = x.ms ++ (m.0 ∷ []);
        goes = join s v w x.ms (m.0 ∷ []) one x.goes;
        so = record {
          at = record { later = x.ms; moment = m.0; earlier = []; whole = refl };
          ticks = m.1;
          answered = λ message h. x.so message h.0 h.1 (let less = get_less m.0.after.sent h.0 message h.2 in omega (arith, less, more)) h.2;
        };
      }

  -- two exchanges, one after the other: of one station with both desks, or of both desks
  both : (t : DeskId → Station) (to : DeskId → DeskId) (w : Configuration Disk) → Steady s v w → Ready (t A) w → Ready (t B) w
      → SomeMoments w (λ ms. (d : DeskId) → Exchange w (t d) (to d) ms)
  both t to w st ra rb =
      let x = exchange w st (t A) ra (to A) in
      let y = exchange (last_of w x.ms) (ends s v w x.ms x.goes) (t B) (ready_after w x.ms (t B) x.goes rb) (to B) in
      record { ms = y.ms ++ x.ms; goes = join s v w y.ms x.ms x.goes y.goes; so = each x.ms y.ms x.so y.so }
    where
      each : (xs ys : List (Moment Disk Why)) → Exchange w (t A) (to A) xs → Exchange (last_of w xs) (t B) (to B) ys → (d : DeskId) → Exchange w (t d) (to d) (ys ++ xs)
      each xs ys x y A = exchange_after w (t A) (to A) ys xs x
      each xs ys x y B = exchange_before w (t B) (to B) ys xs y

  -- this many exchanges of a board with both desks
  exchanges : (w : Configuration Disk) → Steady s v w → (n : ℕ) → Ready (Station.Board n) w → (m : ℕ) → SomeMoments w (λ ms. HasExchanges w n m ms)
  exchanges w st n ready zero = record { ms = []; goes = record { begins = st; run = tt; calm = tt }; so = tt }
  exchanges w st n ready (suc m) =
      let t = Station.Board n in
      let before = exchanges w st n ready m in
      let near = ready_after w before.ms t before.goes ready in
      let more = both (λ d. t) (λ d. d) (last_of w before.ms) (ends s v w before.ms before.goes) near near in
      record {
        ms = more.ms ++ before.ms;
        goes = join s v w more.ms before.ms before.goes more.goes;
        so = (more.ms, before.ms, refl, before.so, more.so);
      }

module _ {Disk Why : Type 0} (s : Setting Disk Why) where
  pub may_hear : (w : Configuration Disk) → Fine s w → MayHear s w
  may_hear w f up =
      let v = all_votes w in
      let st = steady s w f up in
      let x = both s v Station.Desk other w st tt tt in
      ((x.ms, record { run = x.goes.run; calm = x.goes.calm; exchanges = x.so }), λ n m k at. let y = exchanges s v w st n (k, at) m in (y.ms, y.goes.run, y.goes.calm, y.so))
