-- A flow of processes is a run, and what holds after some happening holds at some moment.
use Rattle.std.proofs.Common.{arith, ◌≡◌, ◌⊎◌, ℕ, List, [], ◌∷◌, ◌++◌, refl, sym, ◌∙◌, subst, inl, inr}
use Rattle.corrections.specs.Refusal.{book_refusal}
use Rattle.corrections.specs.declared.refusal.Refusal.{Refusal}
use Rattle.agree_core.specs.declared.messages.DeskId.{DeskId}
use Rattle.agree_core.specs.Ballots.{Ballot}
use Rattle.agree_core.specs.Desks.{DeskState}
use Rattle.live.specs.Desks as desks
use Rattle.headline.specs.Besides.{AtEachEvent}
use Rattle.headline.specs.Setting.{Setting}
use Rattle.headline.specs.Configurations.{Running, Configuration, node}
use Rattle.headline.specs.declared.version.FileVersion.{FileVersion}
use Rattle.headline.specs.Runs.{AtSomeMoment, Begins, Moment, Run, last_of}
use Rattle.headline.proofs.Keeping.{Fine, begins_fine, run_keeps}
use Rattle.progress.specs.CalmMoments.{AllCalm}
use Rattle.progress.specs.Progress.{HoldsAt}
use Rattle.progress.proofs.Progress.{holds_at}
use Rattle.progress.proofs.CalmRuns.{calm_join}
use Rattle.headline.specs.Penned.{WasPenned}
use Rattle.processes.specs.Happenings.{DeskCalled, Flow, Happening, after}
use Rattle.processes.specs.Headline.{AtSomeTime, TypesBallot, WasTyped}
use Rattle.processes.specs.Laws.{GoesThrough}
use Rattle.processes.specs.Progress.{AllQuiet, ArePlayed}
use Rattle.processes.proofs.Going.{Fits, Leads, TypedAs, last_on, run_on}
use Rattle.processes.proofs.FlowSteps.{IsCalm, calm_after, happening}

module _ {Disk : Type 0} where
  -- an event that pens a ballot was typed in this happening
  types : (what : Happening Disk) (v u : Configuration Disk) (c : DeskId) (b : Ballot) (k : DeskState Disk) → TypedAs what v u c b.entry
      → (node u c).process ≡ Running k → k.seat.position ≡ b.at → TypesBallot v what c b
  types (DeskCalled d s (desks.Typed line said) out l text) v u c b k h at pos =
      let here : (node u d).process ≡ Running k = rw h.0 at at in
      let same : k ≡ h.1 = cc (here, h.3) in
      let there : (λ (j : DeskState Disk). j.seat.position) h.1 ≡ b.at = rw same at pos in
      (h.0, h.1, h.2, there, rw there at h.4)
  types _ v u c b k h at pos = absurd h

  -- a ballot was penned in the later events, or before them
  penned_in : (what : Happening Disk) (w : Configuration Disk) (more rest : List (Moment Disk Refusal)) (v : Configuration Disk)
      → AtEachEvent (last_of w rest) more (λ u m. Fits what v u m.event) → (d : DeskId) (b : Ballot) → WasPenned w (more ++ rest) d b
      → TypesBallot v what d b ⊎ WasPenned w rest d b
  penned_in what w [] rest v f d b h = inr h
  penned_in what w (m ∷ more) rest v f d b (inl p) =
      let u = last_of (last_of w rest) more in
      let fits : TypedAs what v u d b.entry = subst (Fits what v u) p.0 f.1 in
      let at : (node u d).process ≡ Running p.1.0 = rw (last_on w rest more) at p.1.1 in
      inl (types what v u d b p.1.0 fits at p.1.2)
  penned_in what w (m ∷ more) rest v f d b (inr h) = penned_in what w more rest v f.0 d b h

module _ {Disk : Type 0} (s : Setting Disk Refusal) (game innings : ℕ) (rules : s.rules ≡ book_refusal innings) where
  -- a run goes through all happenings: each penned ballot was typed; and if all is quiet, the run plays the happenings
  pub record Flows (w : Configuration Disk) (hs : List (Happening Disk)) : Type 0 where
    pub moments : List (Moment Disk Refusal)
    pub run : Run s w moments
    pub through : GoesThrough w moments hs
    pub ends : last_of w moments ≡ after w hs
    pub typed : (d : DeskId) (b : Ballot) → WasPenned w moments d b → WasTyped w hs d b
    pub plays : AllQuiet hs → AllCalm moments × ArePlayed game w hs moments

  pub stays_calm : (w : Configuration Disk) → IsCalm w → (hs : List (Happening Disk)) → IsCalm (after w hs)
  stays_calm w calm [] = calm
  stays_calm w calm (c ∷ cs) = calm_after (after w cs) (stays_calm w calm cs) c

  pub flow_runs : (w : Configuration Disk) → IsCalm w → (hs : List (Happening Disk)) → Flow s.view game innings w hs → Flows w hs
  flow_runs w calm [] f = record { moments = []; run = tt; through = refl; ends = refl; typed = λ d b h. h; plays = λ quiet. (tt, refl) }
  flow_runs w calm (c ∷ cs) f =
      let p = flow_runs w calm cs f.0 in
      let v = after w cs in
      let led : Leads s game c v (last_of w p.moments) (after w (c ∷ cs)) = rw p.ends (happening s game innings rules v (stays_calm w calm cs) c f.1) in
      let ends : last_of w (led.moments ++ p.moments) ≡ after w (c ∷ cs) = last_on w p.moments led.moments ∙ led.ends in
      record {
        moments = led.moments ++ p.moments;
        run = run_on s game w p.moments led.moments p.run led.run;
        through = (led.moments, p.moments, led.few, refl, p.through, ends);
        ends = ends;
        typed = λ d b t. elim (penned_in c w led.moments p.moments v led.fits d b t) [ inl h ↦ inl h | inr h ↦ inr (p.typed d b h) ];
        plays = λ quiet.
            let before = p.plays quiet.0 in
            let now = led.plays quiet.1 in
            (calm_join led.moments p.moments before.0 now.0, (led.moments, p.moments, refl, before.1, now.1, ends));
      }

  module _ (version : FileVersion) (boards : ℕ) (w : Configuration Disk) (begins : Begins s version boards w) where
    -- at the start no fault is due
    pub begins_calm : IsCalm w
    begins_calm = grind arith

    -- so each configuration of a flow is one that a run comes to
    pub runs : (hs : List (Happening Disk)) → Flow s.view game innings w hs → Flows w hs
    runs hs f = flow_runs w begins_calm hs f

    pub fine : (hs : List (Happening Disk)) → Flow s.view game innings w hs → Fine s (after w hs)
    fine hs f = let p = runs hs f in subst (Fine s) p.ends (run_keeps s w p.moments (begins_fine s version boards w begins) p.run)

    pub stands : (hs : List (Happening Disk)) → Flow s.view game innings w hs → HoldsAt s (after w hs)
    stands hs f = let p = runs hs f in subst (HoldsAt s) p.ends (holds_at s version boards w p.moments begins p.run)

module _ {Disk : Type 0} where
  at_last : (P : Configuration Disk → Type 0) (w : Configuration Disk) (ms : List (Moment Disk Refusal)) → P (last_of w ms) → AtSomeMoment w ms P
  at_last P w ms h = grind arith

  before : (P : Configuration Disk → Type 0) (w : Configuration Disk) (more rest : List (Moment Disk Refusal)) → AtSomeMoment w rest P → AtSomeMoment w (more ++ rest) P
  before P w [] rest h = h
  before P w (m ∷ more) rest h = inr (before P w more rest h)

  -- what holds at some time holds at some moment
  pub at_some : (P : Configuration Disk → Type 0) (w : Configuration Disk) (hs : List (Happening Disk)) (ms : List (Moment Disk Refusal)) → GoesThrough w ms hs
      → AtSomeTime w hs P → AtSomeMoment w ms P
  at_some P w [] ms g h = rw g h
  at_some P w (c ∷ cs) ms g (inl h) = at_last P w ms (subst P (sym g.5) h)
  at_some P w (c ∷ cs) ms g (inr h) = rw g.3 (before P w g.0 g.1 (at_some P w cs g.1 g.4 h))
