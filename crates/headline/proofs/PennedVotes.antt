-- A property that every pen preserves holds of a desk's votes, of the votes read from its disk, and of every image.
use Rattle.std.proofs.Common.{arith, ◌≡◌, ℕ, Some, List, [], ◌∷◌, sym, ap, ◌∙◌, subst, inl, inr}
use Rattle.notation.specs.declared.entry.Entry.{Entry}
use Rattle.agree_core.specs.declared.messages.{DeskId.DeskId, Message.Message}
use Rattle.agree_core.specs.Ballots.{Ballot, In}
use Rattle.agree_core.specs.Desks.{DeskState, MayPen, PenAnswer, Pens, ReceiveAnswer, Receives, next_ballot}
use Rattle.agree_core.specs.FileView.{FileView, Stays}
use Rattle.agree_core.specs.Openings.{Opening, Opens}
use Rattle.headline.specs.declared.{event.Event.Event, event.Station.Station, version.FileVersion.FileVersion}
use Rattle.headline.specs.Setting.{Setting}
use Rattle.headline.specs.Configurations.{Process, Running, Node, Configuration, node, process_disk, process_votes, with_disk}
use Rattle.headline.specs.Answers.{Answer}
use Rattle.headline.specs.DeskFaults.{LosesPower}
use Rattle.headline.specs.Migrations.{MigratesAt}
use Rattle.headline.specs.DeskSteps.{AtDesk}
use Rattle.headline.specs.Events.{station_of}
use Rattle.headline.specs.Steps.{Step}
use Rattle.headline.specs.Runs.{Begins, Moment, Run, last_of}
use Rattle.headline.specs.Headline.{ArePenned}
use Rattle.headline.specs.DeskAnswers.{AfterOpen, AfterPen, AfterReceive}
use Rattle.headline.specs.Penned.{MayStore, WasPenned}
use Rattle.headline.proofs.AtStations.{at_desk}
use Rattle.headline.proofs.Keeping.{votes_at}

module _ {Disk Why : Type 0} (s : Setting Disk Why) where
  -- it holds of these votes, of the votes that a read gives, and of those of each image
  pub record HeldBy (Q : List Ballot → Type 0) (view : FileView Disk) (votes : List Ballot) (disk : Disk) : Type 0 where
    pub of_votes : Q votes
    pub of_reads : (vs : List Ballot) → view.reads disk ≡ Some vs → Q vs
    pub of_images : (vs : List Ballot) → view.Image disk (Some vs) → Q vs

  abbrev pub ProcessHolds : (List Ballot → Type 0) → FileView Disk → Process Disk → Type 0
  ProcessHolds Q view x = HeldBy Q view (process_votes x) (process_disk x)

  -- a pen with this answer may have stored its vote
  abbrev Stores : PenAnswer Why → Type 0
  Stores (PenAnswer.Refused why) = ⊥
  Stores _ = Unit {0}

  module _ (Q : List Ballot → Type 0) (view : FileView Disk) where
    loses_power : (votes : List Ballot) (old new : Disk) → LosesPower view old new → HeldBy Q view votes old → HeldBy Q view votes new
    loses_power votes old new h0 h1 = grind arith

    on_other_disk : (x : Process Disk) (disk : Disk) → Stays view (process_disk x) disk → ProcessHolds Q view x → ProcessHolds Q view (with_disk x disk)
    on_other_disk x disk h0 h1 = grind arith

    abbrev DeskHolds : DeskState Disk → Type 0
    DeskHolds k = HeldBy Q view k.votes k.disk

  abbrev NodeHolds : (List Ballot → Type 0) → (FileVersion → FileView Disk) → Node Disk → Type 0
  NodeHolds Q view y = ProcessHolds Q (view y.version) y.process

  module _ (Q : List Ballot → Type 0) (view : FileVersion → FileView Disk) (x : Node Disk) (answer : Answer Why) (y : Node Disk) where
    after_pen : (l : DeskState Disk) (told : PenAnswer Why) → DeskHolds Q (view x.version) l → AfterPen (view x.version) x told l answer y → NodeHolds Q view y
    after_pen l told h0 h1 = grind arith

    after_receive : (l : DeskState Disk) (told : ReceiveAnswer) (out : List Message) → DeskHolds Q (view x.version) l → AfterReceive (view x.version) x told l out answer y → NodeHolds Q view y
    after_receive l told out h0 h1 = grind arith

    after_open : (d : DeskId) (votes : List Ballot) (old : Disk) (opening : Opening Disk) → HeldBy Q (view x.version) votes old → Opens (view x.version) s.rules d old opening
        → AfterOpen (view x.version) x votes opening answer y → NodeHolds Q view y
    after_open d votes old opening h0 h1 h2 = grind arith

    migrates_at : (version : FileVersion) (votes : List Ballot) (old : Disk) → x.version ≡ version → NodeHolds Q view x → HeldBy Q (view version) votes old
        → MigratesAt view x version votes old answer y → NodeHolds Q view y
    migrates_at version votes old h0 h1 h2 h3 = grind arith

  abbrev pub PenKeeps : (List Ballot → Type 0) → Event → Answer Why → Node Disk → Type 0
  PenKeeps Q event answer x =
      (c : DeskId) (k : DeskState Disk) (e : Entry) → event ≡ Event.Pen c e → MayStore answer → x.process ≡ Running k → MayPen s.rules k e → Q k.votes → Q (next_ballot k e ∷ k.votes)

  desk_holds : (Q : List Ballot → Type 0) (sent : List Message) (d : DeskId) (event : Event) (x : Node Disk) (answer : Answer Why) (y : Node Disk) (out : List Message)
      → PenKeeps Q event answer x → NodeHolds Q (s.view d) x → AtDesk s sent d event x answer y out → NodeHolds Q (s.view d) y
  desk_holds h0 sent d h3 x answer y out f h p =
      grind (arith, after_pen, after_receive, loses_power, on_other_disk, after_open, migrates_at)

  abbrev pub BothHold : (DeskId → List Ballot → Type 0) → Configuration Disk → Type 0
  BothHold Q w = (d : DeskId) → NodeHolds (Q d) (s.view d) (node w d)

  -- each pen of this event preserves the property
  abbrev pub PensKeep : (DeskId → List Ballot → Type 0) → Configuration Disk → Event → Answer Why → Type 0
  PensKeep Q w event answer =
      (d : DeskId) (k : DeskState Disk) (e : Entry) → event ≡ Event.Pen d e → MayStore answer
      → (node w d).process ≡ Running k → MayPen s.rules k e → Q d k.votes → Q d (next_ballot k e ∷ k.votes)

  pub step_holds : (Q : DeskId → List Ballot → Type 0) (w : Configuration Disk) (event : Event) (answer : Answer Why) (new : Configuration Disk)
      → PensKeep Q w event answer → BothHold Q w → Step s w event answer new → BothHold Q new
  step_holds Q w event answer new f h p d = elim (at_desk s w event answer new (station_of event) d p) [
    | inl e ↦ subst (NodeHolds (Q d) (s.view d)) (sym e.1) (h d)
    | inr k ↦ desk_holds (Q d) w.sent d event (node w d) answer (node new d) k.1 (keeps k.0) (h d) k.2
  ]
    where
      keeps : station_of event ≡ Station.Desk d → PenKeeps (Q d) event answer (node w d)
      keeps e c k g q t i m v = f d k g (q ∙ ap (λ (z : DeskId). Event.Pen z g) (let u = sym (ap station_of q) ∙ e in cc)) t i m v

  pub begins_hold : (Q : DeskId → List Ballot → Type 0) → ((d : DeskId) → Q d []) → (version : FileVersion) (n : ℕ) (w : Configuration Disk) → Begins s version n w → BothHold Q w
  begins_hold Q h0 version n w h1 = grind arith

  -- each of these votes was penned
  abbrev ThesePenned : Configuration Disk → List (Moment Disk Why) → DeskId → List Ballot → Type 0
  ThesePenned w ms d vs = (b : Ballot) → In b vs → WasPenned w ms d b

  now : (w : Configuration Disk) (m : Moment Disk Why) (ms : List (Moment Disk Why)) → PensKeep (ThesePenned w (m ∷ ms)) (last_of w ms) m.event m.answer
  now w m ms d k g q t i may old b (inl j) = inl (cc, (k, i, cc), t)
  now w m ms d k g q t i may old b (inr j) = old b j

  penned : (version : FileVersion) (n : ℕ) (w : Configuration Disk) (ms : List (Moment Disk Why)) → Begins s version n w → Run s w ms → BothHold (ThesePenned w ms) w
      → BothHold (ThesePenned w ms) (last_of w ms)
  penned version n w [] e r h = h
  penned version n w (m ∷ ms) e r h =
      let before = penned version n w ms e r.0 (begins_hold (ThesePenned w ms) (λ d b i. absurd i) version n w e) in
      step_holds (ThesePenned w (m ∷ ms)) (last_of w ms) m.event m.answer m.after (now w m ms) (λ d. let b = before d in grind arith) r.1

  pub all_penned : (version : FileVersion) (n : ℕ) (w : Configuration Disk) (ms : List (Moment Disk Why)) → Begins s version n w → Run s w ms → ArePenned w ms
  all_penned version n w ms e r d b i = grind (arith, votes_at, (penned version n w ms e r (begins_hold (ThesePenned w ms) (λ d b i. absurd i) version n w e) d))
