-- What an exchange brings a desk.
use Rattle.std.proofs.Common.{◌≡◌, ◌≢◌, ◌⊎◌, true≢false, Option, Some, None, List, [], ◌∷◌, ◌++◌, refl, sym, ap, ◌∙◌, subst, inl, inr, arith}
use Rattle.notation.specs.declared.entry.Entry.{Entry}
use Rattle.agree_core.specs.declared.{messages.Asker.Asker, messages.DeskId.DeskId, messages.Message.Message, messages.Vote.Vote}
use Rattle.agree_core.specs.Ballots.{AllVotes, Ballot, Justified, votes_by}
use Rattle.agree_core.specs.Desks.{DeskState, Ticks, ask_for, ask_other, asker, own_vote}
use Rattle.agree_core.specs.Keeping.{Each}
use Rattle.agree_core.specs.Positions.{Before, position_of}
use Rattle.agree_core.specs.Readers.{other}
use Rattle.agree_core.specs.Seats.{SeatState}
use Rattle.headline.specs.declared.{event.Event.Event, event.Station.Station}
use Rattle.headline.specs.Configurations.{Configuration, Node, node}
use Rattle.headline.specs.Runs.{Moment, last_of}
use Rattle.headline.specs.Setting.{Setting}
use Rattle.headline.specs.Steps.{Step}
use Rattle.headline.proofs.Heeding.{other_not}
use Rattle.headline.proofs.NotingSteps.{there}
use Rattle.headline.proofs.Sound.{justified_other}
use Rattle.progress.specs.CalmMoments.{IsUp}
use Rattle.progress.specs.Exchange.{Exchange, HandsOut}
use Rattle.progress.proofs.CalmRuns.{CalmRun, Steady, ends, last_out, seat_goes, sent_set, steady_votes}
use Rattle.progress.proofs.CalmSeats.{GoesOn}
use Rattle.progress.proofs.CalmSteps.{one_process}
use Rattle.progress.proofs.Exchanges.{Done, Ear, Hearer, IsGivenTo, Knows, NoVote, On, exchange_brings, fine_at, given_to, none_full}

-- the seat's position, and what it has noted of the other desk
abbrev pub ear : SeatState → Ear
ear s = record { position = s.position; noted = s.theirs }

on_of : (theirs : List Ballot) (s t : SeatState) → GoesOn theirs s t → On (ear s) (ear t)
on_of theirs s t g = grind arith

module _ {Disk Why : Type 0} (s : Setting Disk Why) where
  -- a desk that is up hears a vote for its position
  hears_it : (w : Configuration Disk) (m : Moment Disk Why) (d : DeskId) (k l : DeskState Disk) (v : Vote) → IsUp (node w d) k → IsUp (node m.after d) l
      → v.desk ≢ k.seat.desk → position_of v ≡ k.seat.position → IsGivenTo s w m d k (Message.Vote v)
      → Before k.seat.position l.seat.position ⊎ Knows (ear l.seat)
  hears_it w m d k l v u u' n at g = grind (arith, one_process)

  pub others_justified : (w : Configuration Disk) (v : AllVotes) → Steady s v w → (d : DeskId) → Justified (votes_by v d) (votes_by v (other d))
  others_justified w v st d = subst (λ (z : AllVotes). Justified (votes_by z d) (votes_by z (other d))) (steady_votes s v w st) (justified_other s w d st.fine)

  -- the desk asks for the vote that it lacks
  ticks : (v : AllVotes) (d : DeskId) (w : Configuration Disk) (m : Moment Disk Why) → Steady s v w → Step s w m.event m.answer m.after → m.event ≡ Event.Tick (Station.Desk d)
      → (k : DeskState Disk) → IsUp (node w d) k
      → IsUp (node m.after d) k × (Knows (ear k.seat) ⊎ (NoVote (votes_by v (other d)) k.seat.position ⊎ ((from : Asker) × HandsOut w m (ask_for from k.seat.position))))
  ticks v d w m st p e k u =
      let q = subst (λ (z : Event). Step s w z m.answer m.after) e p in
      let same : q.2.0 ≡ k = one_process (node w d) q.2.0 k q.2.1 u.runs in
      let at : node w d ≡ node m.after d = sym q.2.4 ∙ sym (there s w m.after d q.0 q.1 q.3) in
      let sent = ap (λ (z : Configuration Disk). z.sent) q.3 ∙ sent_set w d q.0 q.1 in
      (subst (λ (z : Node Disk). IsUp z k) at u, asks q.1 sent (subst (λ (z : DeskState Disk). Ticks z q.1) same q.2.2) k.seat.theirs refl)
    where
      asks : (out : List Message) → m.after.sent ≡ w.sent ++ out → Ticks k out → (o : Option Entry) → k.seat.theirs ≡ o
          → Knows (ear k.seat) ⊎ (NoVote (votes_by v (other d)) k.seat.position ⊎ ((from : Asker) × HandsOut w m (ask_for from k.seat.position)))
      asks out sent t (Some f) h = inl (λ e. cc)
      asks out sent (inr (inl failed, _)) None h = absurd (true≢false (sym failed ∙ u.sound))
      asks out sent (inr (inr full, _)) None h = inr (inl (none_full (votes_by v d) (votes_by v (other d)) k.seat.position (others_justified w v st d) full))
      asks out sent (inl t) None h =
          let own = own_vote k.seat.desk k.seat.position k.seat.mine in
          let from = asker k.seat.desk in
          let ask = ask_for from k.seat.position in
          let is : out ≡ own ++ (ask ∷ []) = subst (λ (z : Option Entry). out ≡ own ++ ask_other from k.seat.position z) h t.2 in
          inr (inr (from, last_out w.sent own m.after.sent ask (sent ∙ ap (λ (z : List Message). w.sent ++ z) is)))

  abbrev desk_hears : (v : AllVotes) (d : DeskId) → Hearer s v (Station.Desk d) (other d)
  desk_hears v d = record {
    State = DeskState Disk;
    ear = λ k. ear k.seat;
    Ok = λ m. Unit {0};
    Is = λ w k. IsUp (node w d) k;
    stays = λ w ms r k u. let l = (ends s v w ms r).up d in (l.0, l.1);
    goes = λ w ms r k l u z. on_of (votes_by v (other d)) k.seat l.seat (seat_goes s v w ms r d k l u z);
    hears = λ w m st ok p k l u z x given desk at.
        let differ : x.desk ≢ k.seat.desk = λ e. other_not d (sym desk ∙ e ∙ (fine_at s w v st d k u).seat.desk) in
        hears_it w m d k l x u z differ at (given_to s w m d k (Message.Vote x) u p given);
    ticks = λ w m st p e k u. ticks v d w m st p e k u;
  }

  -- an exchange brings a desk to a later position, or every vote that the other desk has cast at its position
  pub trip : (v : AllVotes) (w : Configuration Disk) (ms : List (Moment Disk Why)) → CalmRun s v w ms → (d : DeskId)
      → Exchange w (Station.Desk d) (other d) ms → (k l : DeskState Disk) → IsUp (node w d) k → IsUp (node (last_of w ms) d) l
      → Done (votes_by v (other d)) (ear k.seat) (ear l.seat)
  trip v w ms r d x k l u u' =
      exchange_brings s v (Station.Desk d) (other d) (desk_hears v d) w ms k l (record { run = r; ok = any ms; from = u; to = u' }) x
    where
      any : (ns : List (Moment Disk Why)) → Each (λ m. Unit {0}) ns
      any [] = tt
      any (n ∷ ns) = (tt, any ns)
