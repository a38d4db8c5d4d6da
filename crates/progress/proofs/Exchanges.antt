-- What an exchange brings a station: a later position, or every vote that a desk has cast at its position.
use Rattle.std.proofs.Common.{None, ◌≡◌, ◌≢◌, ◌⊎◌, Option, Some, List, [], ◌∷◌, ◌++◌, refl, sym, ap, ◌∙◌, subst, inl, inr, arith}
use Rattle.notation.specs.declared.entry.Entry.{Entry}
use Rattle.agree_core.specs.declared.{messages.Ask.Ask, messages.Asker.Asker, messages.DeskId.DeskId, messages.Message.Message, messages.Vote.Vote, position.Position.Position}
use Rattle.agree_core.specs.Ballots.{AllVotes, Ballot, In, Justified, ballot_at, vote_of, votes_by}
use Rattle.agree_core.specs.Desks.{DeskState, ReceiveAnswer, Receives, Replies, ask_for}
use Rattle.agree_core.specs.Keeping.{DeskFine, Each}
use Rattle.agree_core.specs.Positions.{Before, InRange, IsFull, position_of}
use Rattle.agree_core.specs.Readers.{other}
use Rattle.headline.specs.declared.{event.Event.Event, event.Station.Station}
use Rattle.headline.specs.Configurations.{Configuration, all_votes, node}
use Rattle.headline.specs.DeskAnswers.{AfterReceive}
use Rattle.headline.specs.Runs.{Moment, last_of}
use Rattle.headline.specs.Setting.{Setting}
use Rattle.headline.specs.Steps.{Step}
use Rattle.headline.proofs.Given.{given_there}
use Rattle.headline.proofs.Keeping.{node_fine, running}
use Rattle.headline.proofs.NotingSteps.{there}
use Rattle.progress.specs.CalmMoments.{IsUp}
use Rattle.progress.specs.Exchange.{Amid, ComesTo, Exchange, HandsOut, IsAnswered, Reaches}
use Rattle.progress.proofs.CalmRuns.{CalmRun, Steady, last_out, given_at, last_split, sent_set, split, steady_votes}

-- no vote is cast for this position
abbrev pub NoVote : List Ballot → Position → Type 0
NoVote votes p = (f : Entry) → In (record { at = p; entry = f }) votes → ⊥

pub in_range_or_full : (p : Position) → InRange p ⊎ IsFull p
in_range_or_full p = grind arith

-- a full position has no votes
pub none_full : (theirs votes : List Ballot) (p : Position) → Justified theirs votes → IsFull p → NoVote votes p
none_full theirs [] p j full f i = i
none_full theirs (b ∷ bs) p j full f i = grind (arith, (none_full theirs bs p j.2 full f))

-- a station's position, and what it has noted there of a desk
pub record Ear : Type 0 where
  pub position : Position
  pub noted : Option Entry

abbrev pub Knows : Ear → Type 0
Knows e = e.noted ≢ None

-- the station has gone on: to a later position, or keeping what it had noted
abbrev pub On : Ear → Ear → Type 0
On e f = Before e.position f.position ⊎ ((f.position ≡ e.position) × ((x : Entry) → e.noted ≡ Some x → f.noted ≡ Some x))

-- the station has moved on, or knows what the desk has cast at its position, if anything
abbrev pub Done : List Ballot → Ear → Ear → Type 0
Done votes e f = Before e.position f.position ⊎ (Knows f ⊎ NoVote votes f.position)

pub on_on : (e f g : Ear) → On e f → On f g → On e g
on_on e f g h3 h = grind arith

done_from : (votes : List Ballot) (e f g : Ear) → On e f → Done votes f g → Done votes e g
done_from votes e f g h h5 = grind arith

done_on : (votes : List Ballot) (e f g : Ear) → On e f → Done votes e f → On f g → Done votes e g
done_on votes e f g h k h6 = grind arith

none_there : (votes : List Ballot) (e f : Ear) → NoVote votes e.position → On e f → Done votes e f
none_there votes e f n h = done_on votes e e f (inr (refl, λ x q. q)) (inr (inr n)) h

each_split : {X : Type 0} → (P : X → Type 0) (xs ys : List X) → Each P (xs ++ ys) → Each P xs × Each P ys
each_split P [] ys h = (tt, h)
each_split P (x ∷ xs) ys h = let k = each_split P xs ys h.1 in ((h.0, k.0), k.1)

module _ {Disk Why : Type 0} (s : Setting Disk Why) where
  pub fine_at : (w : Configuration Disk) (v : AllVotes) → Steady s v w → (d : DeskId) (k : DeskState Disk) → IsUp (node w d) k
      → DeskFine (s.view d (node w d).version) d (votes_by v (other d)) k
  fine_at w v st d k u =
      subst (λ (z : AllVotes). DeskFine (s.view d (node w d).version) d (votes_by z (other d)) k) (steady_votes s v w st)
      (running s (node w d).version d (votes_by (all_votes w) (other d)) (node w d).process k u.runs (node_fine s w d st.fine))

  -- a desk is given the message in this moment
  pub record IsGivenTo (w : Configuration Disk) (m : Moment Disk Why) (d : DeskId) (k : DeskState Disk) (message : Message) : Type 0 where
    pub l : DeskState Disk
    pub told : ReceiveAnswer
    pub out : List Message
    pub receives : Receives (s.view d (node w d).version) k message told l out
    pub after : AfterReceive (s.view d (node w d).version) (node w d) told l out m.answer (node m.after d)
    pub sent : m.after.sent ≡ w.sent ++ out

  pub given_to : (w : Configuration Disk) (m : Moment Disk Why) (d : DeskId) (k : DeskState Disk) (message : Message) → IsUp (node w d) k
      → Step s w m.event m.answer m.after → ComesTo w m (Station.Desk d) message → IsGivenTo w m d k message
  given_to w m d k message u p (n, e, get) = turn (subst (λ (z : Event). Step s w z m.answer m.after) e p)
    where
      turn : Step s w (Event.Give n (Station.Desk d)) m.answer m.after → IsGivenTo w m d k message
      turn (y, out, (j, l, it, told, runs, given, r, a), is) =
          let same = given_there w.sent n it message get given in
          record { l = l; told = told; out = out; receives = grind arith; after = grind (arith, there); sent = grind (arith, sent_set) }

  -- a desk that is up answers an ask
  replies : (w : Configuration Disk) (m : Moment Disk Why) (d : DeskId) (k : DeskState Disk) (q : Ask) → IsUp (node w d) k
      → (g : IsGivenTo w m d k (Message.Ask q)) → Replies k q g.out
  replies w m d k q u g = grind arith

  module _ (v : AllVotes) (t : Station) (d : DeskId) where
    -- a station of this kind hears in calm moments what a desk says
    pub record Hearer : Type 1 where
      pub State : Type 0
      pub ear : State → Ear
      pub Ok : Moment Disk Why → Type 0
      pub Is : Configuration Disk → State → Type 0
      -- the station goes on
      pub stays : (w : Configuration Disk) (ms : List (Moment Disk Why)) → CalmRun s v w ms → (k : State) → Is w k → (l : State) × Is (last_of w ms) l
      pub goes : (w : Configuration Disk) (ms : List (Moment Disk Why)) → CalmRun s v w ms → (k l : State) → Is w k → Is (last_of w ms) l → On (ear k) (ear l)
      -- the station hears the desk's vote for its position
      pub hears : (w : Configuration Disk) (m : Moment Disk Why) → Steady s v w → Ok m → Step s w m.event m.answer m.after → (k l : State) → Is w k → Is m.after l
          → (x : Vote) → ComesTo w m t (Message.Vote x) → x.desk ≡ d → position_of x ≡ (ear k).position → Before (ear k).position (ear l).position ⊎ Knows (ear l)
      -- at a tick the station asks for that vote, if it lacks it
      pub ticks : (w : Configuration Disk) (m : Moment Disk Why) → Steady s v w → Step s w m.event m.answer m.after → m.event ≡ Event.Tick t → (k : State) → Is w k
          → Is m.after k × (Knows (ear k) ⊎ (NoVote (votes_by v d) (ear k).position ⊎ ((from : Asker) × HandsOut w m (ask_for from (ear k).position))))

    module _ (h : Hearer) where
      abbrev votes : List Ballot
      votes = votes_by v d

      -- the station over these calm moments: its state before the first and after the last
      pub record Span (w : Configuration Disk) (ms : List (Moment Disk Why)) (k l : h.State) : Type 0 where
        pub run : CalmRun s v w ms
        pub ok : Each h.Ok ms
        pub from : h.Is w k
        pub to : h.Is (last_of w ms) l

      on : (w : Configuration Disk) (ms : List (Moment Disk Why)) (k l : h.State) → Span w ms k l → On (h.ear k) (h.ear l)
      on w ms k l p = h.goes w ms p.run k l p.from p.to

      -- one of these moments, before and after it
      record Halves (w : Configuration Disk) (ms : List (Moment Disk Why)) (k l : h.State) (at : Amid ms) : Type 0 where
        step : CalmRun s v (last_of w at.earlier) (at.moment ∷ [])
        ok : h.Ok at.moment
        before : h.State
        after : h.State
        is : h.Is (last_of w at.earlier) before
        came : On (h.ear k) (h.ear before)
        rest : Span at.moment.after at.later after l

      halves : (w : Configuration Disk) (ms : List (Moment Disk Why)) (k l : h.State) → Span w ms k l → (at : Amid ms) → Halves w ms k l at
      halves w ms k l p at =
          let runs = split s v w at.later (at.moment ∷ at.earlier) (subst (CalmRun s v w) at.whole p.run) in
          let both = split s v w (at.moment ∷ []) at.earlier runs.0 in
          let ok = each_split h.Ok at.later (at.moment ∷ at.earlier) (subst (Each h.Ok) at.whole p.ok) in
          let x = h.stays w at.earlier both.0 k p.from in
          let y = h.stays (last_of w at.earlier) (at.moment ∷ []) both.1 x.0 x.1 in
          let last : last_of w ms ≡ last_of at.moment.after at.later = ap (last_of w) at.whole ∙ last_split w at.later (at.moment ∷ at.earlier) in
          record {
            step = both.1;
            ok = ok.1.0;
            before = x.0;
            after = y.0;
            is = x.1;
            came = h.goes w at.earlier both.0 k x.0 p.from x.1;
            rest = record { run = runs.1; ok = ok.0; from = y.1; to = subst (λ (z : Configuration Disk). h.Is z l) last p.to };
          }

      -- the station hears the answer for the position that it asked for
      returned : (w : Configuration Disk) (ms : List (Moment Disk Why)) (j k l : h.State) → On (h.ear j) (h.ear k) → Span w ms k l → (x : Vote) → x.desk ≡ d
          → position_of x ≡ (h.ear j).position → Reaches w t (Message.Vote x) ms → Done votes (h.ear j) (h.ear l)
      returned w ms j k l g p x desk at given =
          let found = given_at w t (Message.Vote x) ms given in
          let a = halves w ms k l p found.0 in
          let c = last_of w found.0.earlier in
          let came = on_on (h.ear j) (h.ear k) (h.ear a.before) g a.came in
          let moved = h.goes c (found.0.moment ∷ []) a.step a.before a.after a.is a.rest.from in
          let rest = on found.0.moment.after found.0.later a.after l a.rest in
          elim came [
            | inl b ↦ done_on votes (h.ear j) (h.ear a.before) (h.ear l) (inl b) (inl b) (on_on (h.ear a.before) (h.ear a.after) (h.ear l) moved rest)
            | inr e ↦
                let heard = h.hears c found.0.moment a.step.begins a.ok a.step.run.1 a.before a.after a.is a.rest.from x found.1 desk (at ∙ sym e.0) in
                let done : Done votes (h.ear a.before) (h.ear a.after) = elim heard [ inl b ↦ inl b | inr y ↦ inr (inl y) ] in
                done_from votes (h.ear j) (h.ear a.before) (h.ear l) (inr e) (done_on votes (h.ear a.before) (h.ear a.after) (h.ear l) moved done rest)
          ]

      -- the desk is given an ask for its position
      asked : (w : Configuration Disk) (ms : List (Moment Disk Why)) (k l : h.State) → Span w ms k l → (from : Asker)
          → IsAnswered w t d (ask_for from (h.ear k).position) ms → Done votes (h.ear k) (h.ear l)
      asked w ms k l p from x =
          let a = halves w ms k l p x.at in
          let m = x.at.moment in
          let c = last_of w x.at.earlier in
          let at = (h.ear k).position in
          let o = a.step.begins.up d in
          let to = given_to c m d o.0 (ask_for from at) o.1 a.step.run.1 x.given in
          elim (replies c m d o.0 (record { from = from; place = at.place; round = at.round }) o.1 to) [
            | inr n ↦ none_there votes (h.ear k) (h.ear l) (λ f i. n.0 f (subst (In (record { at = at; entry = f })) (sym o.2) i)) (on w ms k l p)
            | inl y ↦
                let vote = vote_of o.0.seat.desk (ballot_at at.place at.round y.0) in
                let out = last_out c.sent [] m.after.sent (Message.Vote vote) (to.sent ∙ ap (λ (z : List Message). c.sent ++ z) y.2) in
                let moved = h.goes c (m ∷ []) a.step a.before a.after a.is a.rest.from in
                returned m.after x.at.later k a.after l (on_on (h.ear k) (h.ear a.before) (h.ear a.after) a.came moved) a.rest vote (fine_at c v a.step.begins d o.0 o.1).seat.desk refl
                (x.heard (Message.Vote vote) out)
          ]

      -- an exchange brings the station to a later position, or every vote that the desk has cast at its position
      pub exchange_brings : (w : Configuration Disk) (ms : List (Moment Disk Why)) (k l : h.State) → Span w ms k l → Exchange w t d ms → Done votes (h.ear k) (h.ear l)
      exchange_brings w ms k l p x =
          let a = halves w ms k l p x.at in
          let q = h.ticks (last_of w x.at.earlier) x.at.moment a.step.begins a.step.run.1 x.ticks a.before a.is in
          let span : Span x.at.moment.after x.at.later a.before l = record { run = a.rest.run; ok = a.rest.ok; from = q.0; to = a.rest.to } in
          let rest = on x.at.moment.after x.at.later a.before l span in
          done_from votes (h.ear k) (h.ear a.before) (h.ear l) a.came (elim q.1 [
            | inl y ↦ done_on votes (h.ear a.before) (h.ear a.before) (h.ear l) (inr (refl, λ z e. e)) (inr (inl y)) rest
            | inr (inl n) ↦ none_there votes (h.ear a.before) (h.ear l) n rest
            | inr (inr y) ↦ asked x.at.moment.after x.at.later a.before l span y.0 (x.answered (ask_for y.0 (h.ear a.before).position) y.1)
          ])
