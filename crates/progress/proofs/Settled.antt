-- What exchanges bring about between the desks.
use Rattle.std.specs.Prelude.{◌↔◌}
use Rattle.std.proofs.Common.{false, ◌≡◌, ◌⊎◌, ◌<◌, Option, Some, None, List, [], ◌∷◌, length, refl, sym, ap, ◌∙◌, subst, inl, inr, arith}
use Rattle.notation.specs.declared.entry.Entry.{Entry}
use Rattle.agree_core.specs.declared.{messages.DeskId.DeskId, position.Position.Position}
use Rattle.agree_core.specs.declared.messages.DeskId.TheVariants.{A, B}
use Rattle.agree_core.specs.Agreed.{IsAgreedList}
use Rattle.agree_core.specs.Ballots.{AllVotes, Ballot, In, Justified, votes_by}
use Rattle.agree_core.specs.Books.{Rules}
use Rattle.agree_core.specs.Desks.{DeskState, MayPen, PenAnswer, Pens}
use Rattle.agree_core.specs.Keeping.{MineFine, SeatFine}
use Rattle.agree_core.specs.Readers.{other}
use Rattle.agree_core.specs.Seats.{SeatState, SeatWaits}
use Rattle.agree_core.proofs.Order.{not_before, one_vote}
use Rattle.headline.specs.Configurations.{Configuration, Node, Running, all_votes, node, process_votes}
use Rattle.agree_core.proofs.PenCauses.{not_both}
use Rattle.agree_core.specs.declared.seat.Settled.{Settled}
use Rattle.headline.specs.Answers.{Answer, Penned}
use Rattle.headline.specs.DeskAnswers.{AfterPen}
use Rattle.agree_core.specs.declared.messages.Message.{Message}
use Rattle.headline.specs.Events.{station_of}
use Rattle.headline.specs.Runs.{Moment, last_of}
use Rattle.headline.specs.Setting.{Setting}
use Rattle.headline.proofs.Keeping.{Fine, node_fine, run_keeps, running, votes_at}
use Rattle.progress.specs.CalmMoments.{BothUp, IsUp, NotBack}
use Rattle.progress.specs.InStep.{BothVoted, EachKnows, InStep, IsBehind}
use Rattle.progress.specs.Progress.{Hear, HearingAgainTells, HearingSettles, CanPen, CanPenInStep, StaysUp}
use Rattle.progress.proofs.CalmRuns.{CalmRun, Steady, ends, seat_goes, steady_votes}
use Rattle.progress.proofs.CalmSeats.{GoesOn, not_back}
use Rattle.progress.proofs.CalmSteps.{one_process, step_at_on}
use Rattle.progress.proofs.Near.{agree, before_next, never_far, not_cast}
use Rattle.progress.proofs.Exchanges.{Done, Knows, NoVote, fine_at}
use Rattle.progress.proofs.Trips.{ear, others_justified, trip}

-- the seat waits for its own scorer, or for a vote that isn't cast
abbrev pub Caught : List Ballot → SeatState → Type 0
Caught theirs s = (s.mine ≡ None) ⊎ NoVote theirs s.position

pub caught : (theirs : List Ballot) (s t : SeatState) → GoesOn theirs s t → SeatWaits t → Done theirs (ear s) (ear t) → Caught theirs t
caught theirs s t g w h5 = grind arith

-- such a seat stays where it is
caught_stays : (theirs : List Ballot) (s t : SeatState) → Caught theirs s → GoesOn theirs s t → t.position ≡ s.position
caught_stays theirs s t c h4 = grind arith

not_behind : (theirs : List Ballot) (s : SeatState) (next : Position) → Caught theirs s → IsBehind theirs s next → ⊥
not_behind theirs s next h3 b = grind arith

pub has_cast : (theirs own : List Ballot) (book : List Entry) (p : Position) (mine : Option Entry) (e : Entry) → mine ≡ Some e
    → MineFine theirs own book p mine → In (record { at = p; entry = e }) own
has_cast theirs own book p mine e q m = grind arith

pub not_cast_there : (d : DeskId) (own theirs : List Ballot) (s : SeatState) (book : List Entry) → SeatFine d own theirs s book → NoVote own s.position → s.mine ≡ None
not_cast_there d own theirs s book f n = turn s.mine refl
  where
    turn : (o : Option Entry) → s.mine ≡ o → s.mine ≡ None
    turn None e = e
    turn (Some x) e = absurd (n x (has_cast theirs own book s.position s.mine x e f.mine))

module _ (a b : List Ballot) (s t : SeatState) (xs ys : List Entry) (fs : SeatFine A a b s xs) (ft : SeatFine B b a t ys)
    (cs : Caught b s) (ct : Caught a t) where
  pub one_position : s.position ≡ t.position
  one_position = grind (arith, not_behind, never_far a b s t xs ys fs ft)

  pub one_waits : (s.mine ≡ None) ⊎ (t.mine ≡ None)
  one_waits = elim cs [ inl n ↦ inl n | inr n ↦ inr (not_cast_there B b a t ys ft (subst (NoVote b) one_position n)) ]

not_moved : (theirs : List Ballot) (s t : SeatState) → t.position ≡ s.position → Done theirs (ear s) (ear t) → Knows (ear t) ⊎ NoVote theirs t.position
not_moved theirs s t e h4 = grind (arith, not_before)

-- a seat that knows every vote cast at its position knows this one
knows_it : (d : DeskId) (own theirs : List Ballot) (x : SeatState) (book : List Entry) (e : Entry) → SeatFine d own theirs x book → Justified own theirs
    → Knows (ear x) ⊎ NoVote theirs x.position → In (record { at = x.position; entry = e }) theirs → x.theirs ≡ Some e
knows_it d own theirs x book e f j h i = grind (arith, one_vote)

back_back : (p q r : Position) → NotBack p q → NotBack q r → NotBack p r
back_back p q r h3 n = grind arith

-- a desk whose seat has no vote of its own hasn't voted at its position
pub not_voted : (d : DeskId) (own theirs : List Ballot) (s : SeatState) (book : List Entry) → SeatFine d own theirs s book → s.mine ≡ None → NoVote own s.position
not_voted d own theirs s book f n e i = grind (arith, not_before, before_next, not_cast)

-- when a scorer may pen, by the position and the book
may_pen : {Disk Why : Type 0} (rules : Rules Why) (d : DeskId) (own theirs : List Ballot) (k : DeskState Disk) (p : Position) (book : List Entry) (e : Entry) → SeatFine d own theirs k.seat k.book
    → k.votes ≡ own → k.failed ≡ false → k.seat.position ≡ p → k.book ≡ book
    → MayPen rules k e ↔ ((((f : Entry) × In (record { at = p; entry = f }) own) → ⊥) × (rules book e ≡ None) × (p.place < 8192) × (p.round < 256) × (length own < 16384))
may_pen rules d own theirs k p book e f votes sound at is = (
  λ m. grind (arith, not_voted),
  λ h.
      let none = not_cast_there d own theirs k.seat k.book f (λ x i. h.0 (x, subst (λ (z : Position). In (record { at = z; entry = x }) own) at i)) in
      grind arith,
)

module _ {Disk Why : Type 0} (s : Setting Disk Why) where
  pub steady : (w : Configuration Disk) → Fine s w → BothUp w → Steady s (all_votes w) w
  steady w f u = record { fine = f; up = up }
    where
      up : (d : DeskId) → (k : DeskState Disk) × IsUp (node w d) k × (k.votes ≡ votes_by (all_votes w) d)
      up d = let r = (u d).1.runs in ((u d).0, (u d).1, grind (arith, r))

  -- at one configuration
  module _ (v : AllVotes) (w : Configuration Disk) (st : Steady s v w) where
    pub seat_fine : (d : DeskId) → SeatFine d (votes_by v d) (votes_by v (other d)) (st.up d).0.seat (st.up d).0.book
    seat_fine d =
        let k = st.up d in
        subst (λ (z : List Ballot). SeatFine d z (votes_by v (other d)) k.0.seat k.0.book) k.2 (fine_at s w v st d k.0 k.1).seat

    module _ (ca : Caught v.b (st.up A).0.seat) (cb : Caught v.a (st.up B).0.seat) where
      abbrev k : DeskState Disk
      k = (st.up A).0

      abbrev l : DeskState Disk
      l = (st.up B).0

      at : k.seat.position ≡ l.seat.position
      at = one_position v.a v.b k.seat l.seat k.book l.book (seat_fine A) (seat_fine B) ca cb

      waits : (k.seat.mine ≡ None) ⊎ (l.seat.mine ≡ None)
      waits = one_waits v.a v.b k.seat l.seat k.book l.book (seat_fine A) (seat_fine B) ca cb

      books : (k.book ≡ l.book) × IsAgreedList v k.book
      books = agree v.a v.b k.seat l.seat k.book l.book (seat_fine A) (seat_fine B) at waits

      up : (d : DeskId) → (x : DeskState Disk) × IsUp (node w d) x × (x.seat.position ≡ k.seat.position) × (x.book ≡ k.book)
      up A = (k, (st.up A).1, refl, refl)
      up B = (l, (st.up B).1, sym at, sym books.0)

      not_voted_by_both : BothVoted v k.seat.position → ⊥
      not_voted_by_both h = elim waits [
        | inl n ↦ not_voted A v.a v.b k.seat k.book (seat_fine A) n (h A).0 (h A).1
        | inr n ↦ not_voted B v.b v.a l.seat l.book (seat_fine B) n (h B).0 (subst (λ (p : Position). In (record { at = p; entry = (h B).0 }) v.b) at (h B).1)
      ]

      pub in_step : InStep w k.seat.position k.book
      in_step =
          let q = steady_votes s v w st in
          record {
            up = up;
            agreed = subst (λ (z : AllVotes). IsAgreedList z k.book) (sym q) books.1;
            one_waits = subst (λ (z : AllVotes). BothVoted z k.seat.position → ⊥) (sym q) not_voted_by_both;
          }

  module _ (v : AllVotes) (w : Configuration Disk) (ms : List (Moment Disk Why)) (st : Steady s v w) (h : Hear s w ms) where
    calm_run : CalmRun s v w ms
    calm_run = record { begins = st; run = h.run; calm = h.calm }

    pub last : Steady s v (last_of w ms)
    last = ends s v w ms calm_run

    goes : (d : DeskId) → GoesOn (votes_by v (other d)) (st.up d).0.seat (last.up d).0.seat
    goes d = seat_goes s v w ms calm_run d (st.up d).0 (last.up d).0 (st.up d).1 (last.up d).1

    done : (d : DeskId) → Done (votes_by v (other d)) (ear (st.up d).0.seat) (ear (last.up d).0.seat)
    done d = trip s v w ms calm_run d (h.exchanges d) (st.up d).0 (last.up d).0 (st.up d).1 (last.up d).1

    pub caught_at : (d : DeskId) → Caught (votes_by v (other d)) (last.up d).0.seat
    caught_at d = caught (votes_by v (other d)) (st.up d).0.seat (last.up d).0.seat (goes d) (seat_fine v (last_of w ms) last d).waits (done d)

    pub settled : InStep (last_of w ms) (last.up A).0.seat.position (last.up A).0.book
    settled = in_step v (last_of w ms) last (caught_at A) (caught_at B)

    -- after an earlier exchange of each desk
    pub noted : ((d : DeskId) → Caught (votes_by v (other d)) (st.up d).0.seat) → EachKnows (last_of w ms)
    noted c d k e u i =
        let x = last.up d in
        let theirs = votes_by v (other d) in
        let same : x.0 ≡ k = one_process (node (last_of w ms) d) x.0 k x.1.runs u.runs in
        let knows = not_moved theirs (st.up d).0.seat x.0.seat (caught_stays theirs (st.up d).0.seat x.0.seat (c d) (goes d)) (done d) in
        let there : In (record { at = x.0.seat.position; entry = e }) theirs =
        subst (λ (z : DeskState Disk). In (record { at = z.seat.position; entry = e }) theirs) (sym same)
        (subst (λ (z : AllVotes). In (record { at = k.seat.position; entry = e }) (votes_by z (other d))) (steady_votes s v (last_of w ms) last) i) in
        subst (λ (z : DeskState Disk). z.seat.theirs ≡ Some e) same
        (knows_it d (votes_by v d) theirs x.0.seat x.0.book e (seat_fine v (last_of w ms) last d) (others_justified s (last_of w ms) v last d) knows there)

  module _ (w : Configuration Disk) (f : Fine s w) where
    pub hearing_settles : HearingSettles s w
    hearing_settles ms u h =
        let st = steady w f u in
        let end = last (all_votes w) w ms st h in
        ((end.up A).0.seat.position, (end.up A).0.book, settled (all_votes w) w ms st h)

    pub hearing_again_tells : HearingAgainTells s w
    hearing_again_tells ms rest u h k =
        let v = all_votes w in
        let st = steady w f u in
        let mid = last v w ms st h in
        noted v (last_of w ms) rest mid k (caught_at v w ms st h)

    -- a running desk's seat is fine, by the votes
    pub fine_seat : (d : DeskId) (k : DeskState Disk) → (node w d).process ≡ Running k
        → SeatFine d (votes_by (all_votes w) d) (votes_by (all_votes w) (other d)) k.seat k.book × (k.votes ≡ votes_by (all_votes w) d)
    fine_seat d k runs =
        let votes : k.votes ≡ votes_by (all_votes w) d = sym (votes_at s w d ∙ ap process_votes runs) in
        let seat = (running s (node w d).version d (votes_by (all_votes w) (other d)) (node w d).process k runs (node_fine s w d f)).seat in
        (subst (λ (z : List Ballot). SeatFine d z (votes_by (all_votes w) (other d)) k.seat k.book) votes seat, votes)

    -- a desk that is up pens an entry that its scorer may pen
    pens_it : (d : DeskId) (x y : Node Disk) (k l : DeskState Disk) (e : Entry) (told : PenAnswer Why) (answer : Answer Why) (out : List Message)
        → IsUp x k → MayPen s.rules k e → Pens (s.view d x.version) s.rules k e told l out → AfterPen (s.view d x.version) x told l answer y
        → (settled : Settled) × (answer ≡ Penned settled)
    pens_it d x y k l e h6 answer out u m p a = grind (arith, settled, not_both)

    pub can_pen : (d : DeskId) (k : DeskState Disk) (e : Entry) → IsUp (node w d) k → MayPen s.rules k e → CanPen s w d e
    can_pen d k e u m = (
      (k, u, m),
      λ answer new p.
          let h = p.2 in
          let same : h.0 ≡ k = one_process (node w d) h.0 k h.3 u.runs in
          let pens = subst (λ (z : DeskState Disk). Pens (s.view d (node w d).version) s.rules z e h.2 h.1 p.1) same h.4 in
          pens_it d (node w d) p.0 k h.1 e h.2 answer p.1 u m pens h.5,
    )

    pub can_pen_in_step : CanPenInStep s w
    can_pen_in_step p book d e i =
        let v = all_votes w in
        let k = (i.up d).0 in
        let g = fine_seat d k (i.up d).1.runs in
        let may = may_pen s.rules d (votes_by v d) (votes_by v (other d)) k p book e g.0 g.1 (i.up d).1.sound (i.up d).2 (i.up d).3 in (
          λ h. may.0 (subst (λ (z : DeskState Disk). MayPen s.rules z e) (one_process (node w d) h.0.0 k h.0.1.runs (i.up d).1.runs) h.0.2),
          λ h. can_pen d k e (i.up d).1 (may.1 h),
        )

    pub stays_up : StaysUp s w
    stays_up [] d k r c u = (k, u, refl, inl refl)
    stays_up (m ∷ ms) d k r c u =
        let h = stays_up ms d k r.0 c.0 u in
        let g = step_at_on s (last_of w ms) m.event (station_of m.event) m.answer m.after (run_keeps s w ms f r.0) c.1 d h.0 h.1 r.1 in
        let on = not_back (votes_by (all_votes (last_of w ms)) (other d)) h.0.seat g.0.seat g.3 in
        (g.0, g.1, g.2 ∙ h.2, back_back k.seat.position h.0.seat.position g.0.seat.position h.3 on)
