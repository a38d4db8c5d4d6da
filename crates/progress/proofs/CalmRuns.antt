-- Calm runs: both desks stay up, and sent messages stay sent.
use Rattle.std.proofs.Common.{◌≡◌, ℕ, suc, Some, List, [], ◌∷◌, ◌++◌, ◌+◌, ◌≤◌, length, length-append, append_assoc, refl, sym, ap, ◌∙◌, subst, inl, inr, arith}
use Rattle.std.specs.Prelude.{slice_get}
use Rattle.agree_core.specs.declared.messages.{DeskId.DeskId, Message.Message}
use Rattle.agree_core.specs.declared.messages.DeskId.TheVariants.{A, B}
use Rattle.agree_core.specs.Ballots.{AllVotes, votes_by}
use Rattle.agree_core.specs.Desks.{DeskState}
use Rattle.agree_core.specs.Readers.{other}
use Rattle.headline.specs.declared.{event.Station.Station}
use Rattle.headline.specs.Configurations.{Node, Configuration, all_votes, node, process_votes, with_node}
use Rattle.headline.specs.Events.{station_of}
use Rattle.headline.specs.Runs.{Moment, Run, last_of}
use Rattle.headline.specs.Setting.{Setting}
use Rattle.headline.specs.Steps.{Step}
use Rattle.headline.proofs.Keeping.{Fine, step_keeps}
use Rattle.progress.specs.CalmMoments.{AllCalm, IsCalm, IsUp}
use Rattle.progress.specs.Exchange.{Amid, ComesTo, Reaches}
use Rattle.progress.proofs.CalmSeats.{GoesOn, goes_on}
use Rattle.progress.proofs.CalmSteps.{one_process, step_at_on}

pub get_append : {X : Type 0} → (xs ys : List X) (n : ℕ) (x : X) → slice_get xs n ≡ Some x → slice_get (xs ++ ys) n ≡ Some x
get_append (z ∷ zs) ys (suc n) x e = get_append zs ys n x e
get_append h0 ys n x e = grind arith

pub get_here : {X : Type 0} → (xs ys : List X) (x : X) → slice_get (xs ++ (x ∷ ys)) (length xs) ≡ Some x
get_here [] ys x = refl
get_here (z ∷ zs) ys x = get_here zs ys x

-- the last message that a step hands out is sent under a number of that step
pub last_out : {X : Type 0} → (xs ys sent : List X) (x : X) → sent ≡ xs ++ (ys ++ (x ∷ []))
    → (n : ℕ) × (length xs ≤ n) × (slice_get sent n ≡ Some x)
last_out xs ys sent x e =
    let whole : sent ≡ (xs ++ ys) ++ (x ∷ []) = e ∙ sym (append_assoc xs ys (x ∷ [])) in
    let got = subst (λ (z : List _). slice_get z (length (xs ++ ys)) ≡ Some x) (sym whole) (get_here (xs ++ ys) [] x) in
    let more : length (xs ++ ys) ≡ length xs + length ys = length-append xs ys in
    (length (xs ++ ys), omega arith, got)

pub sent_set : {Disk : Type 0} → (w : Configuration Disk) (d : DeskId) (y : Node Disk) (out : List Message) → (with_node w d y out).sent ≡ w.sent ++ out
sent_set w h1 y out = grind arith

module _ {Disk Why : Type 0} where
  pub last_split : (w : Configuration Disk) (xs ys : List (Moment Disk Why)) → last_of w (xs ++ ys) ≡ last_of (last_of w ys) xs
  last_split w h1 ys = grind arith

  pub calm_split : (xs ys : List (Moment Disk Why)) → AllCalm (xs ++ ys) → AllCalm ys × AllCalm xs
  calm_split [] ys c = (c, tt)
  calm_split (x ∷ xs) ys c = let h = calm_split xs ys c.0 in (h.0, (h.1, c.1))

  pub calm_join : (xs ys : List (Moment Disk Why)) → AllCalm ys → AllCalm xs → AllCalm (xs ++ ys)
  calm_join [] ys b a = b
  calm_join (x ∷ xs) ys b a = (calm_join xs ys b a.0, a.1)

  -- the moment in which a station is given a message
  pub given_at : (w : Configuration Disk) (t : Station) (message : Message) (ms : List (Moment Disk Why)) → Reaches w t message ms
      → (at : Amid ms) × ComesTo (last_of w at.earlier) at.moment t message
  given_at w t message [] g = absurd g
  given_at w t message (m ∷ ms) (inl e) = (record { later = []; moment = m; earlier = ms; whole = refl }, e)
  given_at w t message (m ∷ ms) (inr g) =
      let h = given_at w t message ms g in
      (record { later = m ∷ h.0.later; moment = h.0.moment; earlier = h.0.earlier; whole = ap (λ (x : List (Moment Disk Why)). m ∷ x) h.0.whole }, h.1)

module _ {Disk Why : Type 0} (s : Setting Disk Why) where
  pub run_split : (w : Configuration Disk) (xs ys : List (Moment Disk Why)) → Run s w (xs ++ ys) → Run s w ys × Run s (last_of w ys) xs
  run_split w [] ys r = (r, tt)
  run_split w (x ∷ xs) ys r = grind (arith, last_split, (run_split w xs ys r.0))

  -- a message keeps its number
  pub run_keeps_sent : (w : Configuration Disk) (ms : List (Moment Disk Why)) (n : ℕ) (m : Message) → Run s w ms → slice_get w.sent n ≡ Some m
      → slice_get (last_of w ms).sent n ≡ Some m
  run_keeps_sent w [] n m r e = e
  run_keeps_sent w (x ∷ xs) n m r e = grind (arith, get_append, (run_keeps_sent w xs n m r.0 e))

  -- both desks are up, with these votes
  pub record Steady (v : AllVotes) (w : Configuration Disk) : Type 0 where
    pub fine : Fine s w
    pub up : (d : DeskId) → (k : DeskState Disk) × IsUp (node w d) k × (k.votes ≡ votes_by v d)

  pub steady_votes : (v : AllVotes) (w : Configuration Disk) → Steady v w → all_votes w ≡ v
  steady_votes v w st =
      let a = st.up A in
      let b = st.up B in
      let p : process_votes w.a.process ≡ v.a = ap process_votes a.1.runs ∙ a.2 in
      let q : process_votes w.b.process ≡ v.b = ap process_votes b.1.runs ∙ b.2 in
      λ i. record { a = p i; b = q i }

  pub step_steady : (v : AllVotes) (w : Configuration Disk) (m : Moment Disk Why) → Steady v w → IsCalm m.event → Step s w m.event m.answer m.after → Steady v m.after
  step_steady v w m st calm p = record {
    fine = (step_keeps s w m.event m.answer m.after st.fine p).0;
    up = λ d.
        let k = st.up d in
        let h = step_at_on s w m.event (station_of m.event) m.answer m.after st.fine calm d k.0 k.1 p in
        (h.0, h.1, h.2 ∙ k.2);
  }

  -- a calm run from this configuration on, with both desks up
  pub record CalmRun (v : AllVotes) (w : Configuration Disk) (ms : List (Moment Disk Why)) : Type 0 where
    pub begins : Steady v w
    pub run : Run s w ms
    pub calm : AllCalm ms

  pub ends : (v : AllVotes) (w : Configuration Disk) (ms : List (Moment Disk Why)) → CalmRun v w ms → Steady v (last_of w ms)
  ends v w [] r = r.begins
  ends v w (m ∷ ms) r =
      step_steady v (last_of w ms) m (ends v w ms (record { begins = r.begins; run = r.run.0; calm = r.calm.0 })) r.calm.1 r.run.1

  pub seat_goes : (v : AllVotes) (w : Configuration Disk) (ms : List (Moment Disk Why)) → CalmRun v w ms → (d : DeskId) (k l : DeskState Disk)
      → IsUp (node w d) k → IsUp (node (last_of w ms) d) l → GoesOn (votes_by v (other d)) k.seat l.seat
  seat_goes v w [] r d k l u u' = inl (ap (λ (z : DeskState Disk). z.seat) (one_process (node w d) l k u'.runs u.runs))
  seat_goes v w (m ∷ ms) r d k l u u' =
      let before : CalmRun v w ms = record { begins = r.begins; run = r.run.0; calm = r.calm.0 } in
      let st = ends v w ms before in
      let mid = st.up d in
      let h = seat_goes v w ms before d k mid.0 u mid.1 in
      let g = step_at_on s (last_of w ms) m.event (station_of m.event) m.answer m.after st.fine r.calm.1 d mid.0 mid.1 r.run.1 in
      let same : g.0 ≡ l = one_process (node m.after d) g.0 l g.1.runs u'.runs in
      let on : GoesOn (votes_by v (other d)) mid.0.seat l.seat =
      subst (λ (z : DeskState Disk). GoesOn (votes_by v (other d)) mid.0.seat z.seat) same
      (subst (λ (z : AllVotes). GoesOn (votes_by z (other d)) mid.0.seat g.0.seat) (steady_votes v (last_of w ms) st) g.3) in
      goes_on (votes_by v (other d)) k.seat mid.0.seat l.seat h on

  pub run_join : (w : Configuration Disk) (more ms : List (Moment Disk Why)) → Run s w ms → Run s (last_of w ms) more → Run s w (more ++ ms)
  run_join w [] ms r q = r
  run_join w (m ∷ more) ms r q = grind (arith, last_split, (run_join w more ms r q.0))

  pub join : (v : AllVotes) (w : Configuration Disk) (xs ys : List (Moment Disk Why)) → CalmRun v w ys → CalmRun v (last_of w ys) xs → CalmRun v w (xs ++ ys)
  join v w xs ys r q = record { begins = r.begins; run = run_join w xs ys r.run q.run; calm = calm_join xs ys r.calm q.calm }

  pub split : (v : AllVotes) (w : Configuration Disk) (xs ys : List (Moment Disk Why)) → CalmRun v w (xs ++ ys) → CalmRun v w ys × CalmRun v (last_of w ys) xs
  split v w xs ys r =
      let run = run_split w xs ys r.run in
      let calm = calm_split xs ys r.calm in
      let before : CalmRun v w ys = record { begins = r.begins; run = run.0; calm = calm.0 } in
      (before, record { begins = ends v w ys before; run = run.1; calm = calm.1 })
