-- A moment of a desk's process is no event, one event, or a fault that falls due and one event.
use Rattle.std.proofs.Common.{arith, Err, ◌≡◌, ℕ, Option, Some, None, List, [], length, refl, sym, ap, ◌∙◌, subst, append-nil}
use Rattle.corrections.specs.Refusal.{book_refusal}
use Rattle.cards.specs.Sheet.{Sheet}
use Rattle.corrections.specs.declared.refusal.Refusal.{Refusal}
use Rattle.notation.specs.declared.entry.Entry.{Entry}
use Rattle.agree_core.specs.declared.messages.{DeskId.DeskId, Message.Message}
use Rattle.agree_core.specs.Desks.{DeskState, PenAnswer, Pens, ReceiveAnswer}
use Rattle.agree_core.specs.FileView.{FileView, Stays}
use Rattle.wire.specs.declared.what.What.{What}
use Rattle.desk.specs.Answers.{pen_answer}
use Rattle.station_texts.specs.Saying.{SaysEntry}
use Rattle.headline.specs.declared.{event.Event.Event, event.Station.Station, fault.Fault.Fault}
use Rattle.headline.specs.declared.fault.Fault.TheVariants.{Fail}
use Rattle.headline.specs.Setting.{Setting}
use Rattle.headline.specs.Configurations.{Running, Node, Configuration, node, with_node}
use Rattle.headline.specs.Answers as answers
use Rattle.headline.specs.Answers.{Answer}
use Rattle.headline.specs.DeskSteps.{AtDesk}
use Rattle.headline.specs.Events.{station_of}
use Rattle.headline.specs.DeskAnswers.{has_any}
use Rattle.live.specs.Desks as desks
use Rattle.live.specs.Desks.{DeskCall, DeskStep}
use Rattle.station_texts.specs.declared.said.Said.TheVariants.{Refused, Penned}
use Rattle.station_texts.specs.declared.said.Said.{Said}
use Rattle.processes.specs.Happenings.{DeskCame, Happening, DeskCalled, with_process}
use Rattle.processes.specs.Progress.{IsQuiet, Plays}
use Rattle.processes.proofs.Given.{as_sent}
use Rattle.processes.proofs.Going.{Fits, IsPlayed, Leads, none, one, two}

module _ {Disk : Type 0} where
  pub unmoved : (v : Configuration Disk) (d : DeskId) → with_node v d (node v d) [] ≡ v
  unmoved v d = grind (arith, append-nil)

  pub node_put : (v : Configuration Disk) (d : DeskId) (x : Node Disk) (out : List Message) → node (with_node v d x out) d ≡ x
  node_put v d x out = grind arith

  sent_put : (v : Configuration Disk) (d : DeskId) (x : Node Disk) → (λ (u : Configuration Disk). u.sent) (with_node v d x []) ≡ v.sent
  sent_put v d x = grind (arith, append-nil)

  put_again : (v : Configuration Disk) (d : DeskId) (x y : Node Disk) (out : List Message) → with_node (with_node v d x []) d y out ≡ with_node v d y out
  put_again v d x y out = grind (arith, append-nil)

  abbrev pub runs_on : Node Disk → DeskState Disk → Option Fault → Node Disk
  runs_on x l due = record { version = x.version; process = Running l; due = due }

  pub itself : (x : Node Disk) (k : DeskState Disk) → x.process ≡ Running k → runs_on x k x.due ≡ x
  itself x k e = λ i. record { version = x.version; process = sym e i; due = x.due }

  pub stays_refl : (view : FileView Disk) (disk : Disk) → Stays view disk disk
  stays_refl view disk = (refl, λ image. (λ h. h, λ h. h))

module _ {Disk : Type 0} (s : Setting Disk Refusal) (game : ℕ) (v : Configuration Disk) (d : DeskId) (what : Happening Disk) where
  abbrev pub Reaches : Node Disk → List Message → Type 0
  Reaches y out = Leads s game what v v (with_node v d y out)

  pub at_desk : (event : Event) (answer : Answer Refusal) (y : Node Disk) (out : List Message) → station_of event ≡ Station.Desk d → Fits what v v event
      → IsPlayed s game what v (with_node v d y out) event answer → AtDesk s v.sent d event (node v d) answer y out → Reaches y out
  at_desk event answer y out e f plays h = one s game what v (with_node v d y out) event answer f plays (rw e (y, out, h, refl))

  -- no event
  nothing : (k l : DeskState Disk) (out : List Message) → (node v d).process ≡ Running k → l ≡ k → out ≡ [] → (IsQuiet what → Plays game v what [])
      → Reaches (runs_on (node v d) l (node v d).due) out
  nothing k l out at same empty plays =
      none s game what v (with_node v d (runs_on (node v d) l (node v d).due) out)
      (grind (arith, itself, unmoved)) plays

  module _ (loud : IsQuiet what → ⊥) where
    -- a fault falls due, and then this event happens
    pub after_fault : (x : Node Disk) (event : Event) (answer : Answer Refusal) (y : Node Disk) (out : List Message)
        → AtDesk s v.sent d (Event.FailAt d 1) (node v d) answers.Done x [] → station_of event ≡ Station.Desk d → Fits what v (with_node v d x []) event
        → AtDesk s v.sent d event x answer y out → Reaches y out
    after_fault x event answer y out fall st f h =
        let u : Configuration Disk = with_node v d x [] in
        let moved : AtDesk s u.sent d event (node u d) answer y out =
        subst (λ (xs : List Message). AtDesk s xs d event (node u d) answer y out) (sym (sent_put v d x)) (rw (node_put v d x []) h) in
        subst (Leads s game what v v) (put_again v d x y out)
        (two s game what v (with_node u d y out) (Event.FailAt d 1) event answers.Done answer u loud tt f (x, [], fall, refl) (rw st (y, out, moved, refl)))

    -- a fault falls due at a desk, and this event meets it; then no fault is due, as before
    fails : (node v d).due ≡ None → (k l : DeskState Disk) (event : Event) (out : List Message) → (node v d).process ≡ Running k → station_of event ≡ Station.Desk d
        → Fits what v (with_node v d (runs_on (node v d) k (Some Fail)) []) event
        → AtDesk s v.sent d event (runs_on (node v d) k (Some Fail)) answers.DeviceFailed (runs_on (node v d) l None) out
        → Reaches (runs_on (node v d) l (node v d).due) out
    fails calm k l event out at st f h =
        rw calm (after_fault (runs_on (node v d) k (Some Fail)) event answers.DeviceFailed (runs_on (node v d) l None) out
        (rw at ((k.disk, stays_refl (s.view d (node v d).version) k.disk, refl), refl, refl)) st f h)

module _
    {Disk : Type 0} (s : Setting Disk Refusal) (game innings : ℕ) (rules : s.rules ≡ book_refusal innings) (v : Configuration Disk) (d : DeskId) (calm : (node v d).due ≡ None)
    (text : List ℕ) (sheet : Sheet) (k l : DeskState Disk) (out : List Message) (at : (node v d).process ≡ Running k)
  where
    abbrev called : DeskCall → Happening Disk
    called call = DeskCalled d sheet call out l text

    abbrev new : Node Disk
    new = runs_on (node v d) l (node v d).due

    abbrev Moves : DeskCall → Type 0
    Moves call = Leads s game (called call) v v (with_process v d (Running l) out)

    -- the desk's scorer types a line that says an entry, and the pen of that entry gets this answer
    pens : (line : List ℕ) (said : Said) (e : Entry) (told : PenAnswer Refusal) → SaysEntry sheet k.book k.votes k.seat.position.round line e
        → Pens (s.view d (node v d).version) (book_refusal innings) k e told l out → Moves (desks.Typed line said)
    pens line said e (PenAnswer.Penned settled) says h =
        at_desk s game v d (called (desks.Typed line said)) (Event.Pen d e) (answers.Penned settled) new out refl (refl, k, at, at, says) (λ q. absurd q)
        (k, l, PenAnswer.Penned settled, at, rw rules h, (refl, refl))
    pens line said e (PenAnswer.Refused why) says h =
        at_desk s game v d (called (desks.Typed line said)) (Event.Pen d e) (answers.NotPenned why) new out refl (refl, k, at, at, says) (λ q. absurd q)
        (k, l, PenAnswer.Refused why, at, rw rules h, (refl, refl))
    pens line said e PenAnswer.DeviceFailed says h =
        fails s game v d (called (desks.Typed line said)) (λ q. q) calm k l (Event.Pen d e) out at refl
        (refl, k, at, ap (λ (z : Node Disk). z.process) (node_put v d (runs_on (node v d) k (Some Fail)) []), says)
        (k, l, PenAnswer.DeviceFailed, refl, rw rules h, (Fail, refl, (refl, refl)))

    pub desk_moment : (call : DeskCall) → DeskCame game v.sent call → DeskStep sheet (s.view d (node v d).version) game innings k call out l → Moves call
    desk_moment (desks.Typed line (Penned e settled)) came h = pens line (Penned e settled) e (PenAnswer.Penned settled) h.0 h.1
    desk_moment (desks.Typed line (Refused e why)) came h = pens line (Refused e why) e (pen_answer (Err why)) h.0 h.1
    desk_moment (desks.Typed line said) came h = nothing s game v d (called (desks.Typed line said)) k l out at h.1 h.2 (λ q. absurd q)
    desk_moment (desks.Given bytes What.Failed) came h = nothing s game v d (called (desks.Given bytes What.Failed)) k l out at h.1 h.2 (λ q. refl)
    desk_moment (desks.Given bytes (What.Bad fault)) came h = nothing s game v d (called (desks.Given bytes (What.Bad fault))) k l out at h.2 h.3 (λ q. refl)
    desk_moment (desks.Given bytes (What.Heard x)) came h =
        let found = as_sent v.sent h.0 (came h.0 h.1) in
        at_desk s game v d (called (desks.Given bytes (What.Heard x))) (Event.Give found.0 (Station.Desk d)) (answers.Told x) new out refl tt
        (λ q. (tt, (found.0, h.0, refl, h.1, found.1)))
        (k, l, h.0, ReceiveAnswer.Told x, at, found.1.0, h.2, (refl, refl))
    desk_moment (desks.Given bytes What.Asked) came h =
        let found = as_sent v.sent h.0 (came h.0 h.1) in
        at_desk s game v d (called (desks.Given bytes What.Asked)) (Event.Give found.0 (Station.Desk d)) (answers.Asked (has_any out)) new out refl tt
        (λ q. (tt, (found.0, h.0, refl, h.1, found.1)))
        (k, l, h.0, ReceiveAnswer.Asked, at, found.1.0, h.2, (refl, refl))
    desk_moment (desks.Given bytes What.Device) came h =
        let found = came h.0 h.1 in
        fails s game v d (called (desks.Given bytes What.Device)) (λ q. q) calm k l (Event.Give found.0 (Station.Desk d)) out at refl tt
        (k, l, h.0, ReceiveAnswer.DeviceFailed, refl, found.1, h.2, (Fail, refl, (refl, refl)))
    desk_moment desks.Ticked came h =
        at_desk s game v d (called desks.Ticked) (Event.Tick (Station.Desk d)) (answers.Ticked (length out)) new out refl tt (λ q. (tt, refl))
        (k, at, h.0, refl, itself (node v d) l (at ∙ ap Running (sym h.1)))
    desk_moment call came h = nothing s game v d (called call) k l out at h.0 h.1 (λ q. refl)
