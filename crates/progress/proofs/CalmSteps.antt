-- In calm moments desks that are up stay up, with the votes that they have.
use Rattle.std.proofs.Common.{◌≡◌, ℕ, false, None, List, refl, sym, subst, inl, inr, arith}
use Rattle.agree_core.specs.declared.messages.{DeskId.DeskId, Message.Message}
use Rattle.agree_core.specs.Ballots.{Ballot, votes_by}
use Rattle.agree_core.specs.Desks.{DeskState, ReceiveAnswer, Receives}
use Rattle.agree_core.specs.FileView.{FileView}
use Rattle.agree_core.specs.Keeping.{DeskFine, TheirMessage}
use Rattle.agree_core.specs.Readers.{other}
use Rattle.headline.specs.declared.{event.Event.Event, event.Station.Station}
use Rattle.headline.specs.Answers.{Answer}
use Rattle.headline.specs.Configurations.{Running, Node, Configuration, all_votes, node}
use Rattle.headline.specs.DeskAnswers.{AfterReceive}
use Rattle.headline.specs.DeskSteps.{AtDesk}
use Rattle.headline.specs.Setting.{Setting}
use Rattle.headline.specs.Steps.{StepAt}
use Rattle.headline.specs.Given.{IsGiven}
use Rattle.headline.proofs.AtStations.{at_desk}
use Rattle.headline.proofs.Given.{given_fine}
use Rattle.headline.proofs.Keeping.{Fine, node_fine, running, their_message}
use Rattle.progress.specs.CalmMoments.{IsCalm, IsUp}
use Rattle.progress.proofs.CalmSeats.{GoesOn}

module _ {Disk : Type 0} where
  pub one_process : (x : Node Disk) (k l : DeskState Disk) → x.process ≡ Running k → x.process ≡ Running l → k ≡ l
  one_process x k l p q = cc

  -- the desk of this node is still up, with its votes, and its seat has gone on
  abbrev pub UpFrom : List Ballot → DeskState Disk → Node Disk → Type 0
  UpFrom theirs k y = (l : DeskState Disk) × IsUp y l × (l.votes ≡ k.votes) × GoesOn theirs k.seat l.seat

  receives_on : {Why : Type 0} → (view : FileView Disk) (d : DeskId) (theirs : List Ballot) (x y : Node Disk) (k l : DeskState Disk) (m : Message) (told : ReceiveAnswer) (out : List Message)
      (answer : Answer Why) → x.due ≡ None → k.failed ≡ false → DeskFine view d theirs k → TheirMessage d theirs m → Receives view k m told l out
      → AfterReceive view x told l out answer y → UpFrom theirs k y
  receives_on view d theirs x y k l m told out answer none sound f t r a = (l, grind arith, grind arith, grind arith)

  module _ {Why : Type 0} (s : Setting Disk Why) where
    at_desk_on : (sent : List Message) (d : DeskId) (theirs : List Ballot) (event : Event) (x y : Node Disk) (k : DeskState Disk) (answer : Answer Why) (out : List Message)
        → IsCalm event → IsUp x k → DeskFine (s.view d x.version) d theirs k
        → ((n : ℕ) (m : Message) → IsGiven sent n m → TheirMessage d theirs m)
        → AtDesk s sent d event x answer y out → UpFrom theirs k y
    at_desk_on sent d theirs (Event.Tick t) x y k answer out calm u f told p =
        (k, subst (λ (z : Node Disk). IsUp z k) (sym p.4) u, refl, inl refl)
    at_desk_on sent d theirs (Event.Give n t) x y k answer out calm u f told p =
        let same : p.0 ≡ k = one_process x p.0 k p.4 u.runs in
        let r : Receives (s.view d x.version) k p.2 p.3 p.1 out = subst (λ (z : DeskState Disk). Receives (s.view d x.version) z p.2 p.3 p.1 out) same p.6 in
        receives_on (s.view d x.version) d theirs x y k p.1 p.2 p.3 out answer u.no_fault u.sound f (told n p.2 p.5) r p.7
    at_desk_on sent d theirs _ x y k answer out calm u f told p = absurd calm

    pub step_at_on : (w : Configuration Disk) (event : Event) (t : Station) (answer : Answer Why) (new : Configuration Disk) → Fine s w → IsCalm event
        → (d : DeskId) (k : DeskState Disk) → IsUp (node w d) k → StepAt s w event t answer new
        → UpFrom (votes_by (all_votes w) (other d)) k (node new d)
    step_at_on w event t answer new f calm d k u p = elim (at_desk s w event answer new t d p) [
      | inl e ↦ (k, subst (λ (z : Node Disk). IsUp z k) (sym e.1) u, refl, inl refl)
      | inr h ↦
          let v = all_votes w in
          let fine = running s (node w d).version d (votes_by v (other d)) (node w d).process k u.runs (node_fine s w d f) in
          at_desk_on w.sent d (votes_by v (other d)) event (node w d) (node new d) k answer h.1 calm u fine (λ n m e. their_message s v d m (given_fine v w.sent n m f.on_sent e)) h.2
    ]
