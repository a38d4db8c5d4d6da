-- A desk whose disk has failed stays failed until it is killed or loses power.
use Rattle.std.proofs.Common.{◌≡◌, ◌≢◌, true, List, refl, ap, ◌∙◌, subst, inl, inr, arith}
use Rattle.notation.specs.declared.entry.Entry.{Entry}
use Rattle.agree_core.specs.declared.messages.{DeskId.DeskId, Message.Message}
use Rattle.agree_core.specs.Desks.{DeskState, PenAnswer, Pens, ReceiveAnswer, Receives}
use Rattle.agree_core.specs.FileView.{FileView}
use Rattle.headline.specs.declared.{event.Event.Event, event.Station.Station, fault.Fault.Fault}
use Rattle.headline.specs.Answers.{Answer}
use Rattle.headline.specs.Configurations.{Configuration, Node, Running, node}
use Rattle.headline.specs.DeskAnswers.{AfterPen, AfterReceive}
use Rattle.headline.specs.DeskFaults.{FallsDue}
use Rattle.headline.specs.DeskSteps.{AtDesk}
use Rattle.headline.specs.Events.{station_of}
use Rattle.headline.specs.Setting.{Setting}
use Rattle.headline.proofs.AtStations.{at_desk}
use Rattle.progress.specs.Progress.{StaysFailed}
use Rattle.progress.proofs.CalmSteps.{one_process}

module _ {Disk Why : Type 0} (s : Setting Disk Why) where
  abbrev Still : DeskState Disk → Node Disk → Type 0
  Still k y = (l : DeskState Disk) × (y.process ≡ Running l) × (l ≡ record k { disk = l.disk })

  pens_still : (view : FileView Disk) (x y : Node Disk) (k l : DeskState Disk) (e : Entry) (told : PenAnswer Why) (answer : Answer Why) (out : List Message)
      → k.failed ≡ true → Pens view s.rules k e told l out → AfterPen view x told l answer y → Still k y
  pens_still view x y k l e told answer out t p a = (l, grind arith, grind arith)

  receives_still : (view : FileView Disk) (x y : Node Disk) (k l : DeskState Disk) (m : Message) (told : ReceiveAnswer) (answer : Answer Why) (out : List Message)
      → k.failed ≡ true → Receives view k m told l out → AfterReceive view x told l out answer y → Still k y
  receives_still view x y k l m told answer out t p a = (l, grind arith, grind arith)

  falls_still : (view : FileView Disk) (x y : Node Disk) (k : DeskState Disk) (fault : Fault) → x.process ≡ Running k → FallsDue view fault x y → Still k y
  falls_still view x y k fault runs p = (record k { disk = p.0 }, grind arith, refl)

  at_desk_still : (sent : List Message) (d : DeskId) (event : Event) (x y : Node Disk) (k : DeskState Disk) (answer : Answer Why) (out : List Message)
      → x.process ≡ Running k → k.failed ≡ true → station_of event ≡ Station.Desk d → (event ≢ Event.Kill d) → ((choice : _) → event ≢ Event.Power d choice)
      → AtDesk s sent d event x answer y out → Still k y
  at_desk_still sent d (Event.Pen c e) x y k answer out runs t q n m p =
      let same : p.0 ≡ k = one_process x p.0 k p.3 runs in
      let failed : p.0.failed ≡ true = ap (λ (z : DeskState Disk). z.failed) same ∙ t in
      subst (λ (z : DeskState Disk). Still z y) same (pens_still (s.view d x.version) x y p.0 p.1 e p.2 answer out failed p.4 p.5)
  at_desk_still sent d (Event.Give i u) x y k answer out runs t q n m p =
      let same : p.0 ≡ k = one_process x p.0 k p.4 runs in
      let failed : p.0.failed ≡ true = ap (λ (z : DeskState Disk). z.failed) same ∙ t in
      subst (λ (z : DeskState Disk). Still z y) same (receives_still (s.view d x.version) x y p.0 p.1 p.2 p.3 answer out failed p.6 p.7)
  at_desk_still sent d (Event.Tick u) x y k answer out runs t q n m p = (k, ap (λ (z : Node Disk). z.process) p.4 ∙ runs, refl)
  at_desk_still sent d (Event.FailAt c i) x y k answer out runs t q n m p = falls_still (s.view d x.version) x y k Fault.Fail runs p.0
  at_desk_still sent d (Event.StopAt c i) x y k answer out runs t q n m p = falls_still (s.view d x.version) x y k Fault.Stop runs p.0
  at_desk_still sent d h2 x y k answer out runs t q n m p = grind arith

  pub stays_failed : (w : Configuration Disk) → StaysFailed s w
  stays_failed w d k event answer new runs t p n m = elim (at_desk s w event answer new (station_of event) d p) [
    | inl e ↦ (k, ap (λ (z : Node Disk). z.process) e.1 ∙ runs, refl)
    | inr h ↦ at_desk_still w.sent d event (node w d) (node new d) k answer h.1 runs t h.0 n m h.2
  ]
