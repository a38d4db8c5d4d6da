-- Runs that go on.
use Rattle.std.proofs.Common.{◌≡◌, ◌≤◌, ℕ, List, [], ◌∷◌, ◌++◌, length, refl, ◌∙◌, subst, arith}
use Rattle.corrections.specs.declared.refusal.Refusal.{Refusal}
use Rattle.headline.specs.declared.event.Event.{Event}
use Rattle.headline.specs.Setting.{Setting}
use Rattle.headline.specs.Configurations.{Running, Configuration, node}
use Rattle.agree_core.specs.Desks.{DeskState}
use Rattle.agree_core.specs.declared.messages.DeskId.{DeskId}
use Rattle.notation.specs.declared.entry.Entry.{Entry}
use Rattle.live.specs.Desks as desks
use Rattle.station_texts.specs.Saying.{SaysEntry}
use Rattle.processes.specs.Happenings.{Happening, DeskCalled}
use Rattle.headline.specs.Answers.{Answer}
use Rattle.headline.specs.Steps.{Step}
use Rattle.headline.specs.Runs.{Moment, Run, last_of}
use Rattle.headline.specs.Besides.{AtEachEvent}
use Rattle.progress.specs.CalmMoments.{AllCalm, IsCalm}
use Rattle.processes.specs.Laws.{GoesOn}
use Rattle.processes.specs.Progress.{IsQuiet, Plays}

-- the event of configuration u fits what happened in configuration v: a pen is a line that the desk's scorer typed
abbrev pub TypedAs : {Disk : Type 0} → Happening Disk → Configuration Disk → Configuration Disk → DeskId → Entry → Type 0
TypedAs (DeskCalled d s (desks.Typed line said) out l text) v u c e =
    (c ≡ d) × (k : DeskState _) × ((node v d).process ≡ Running k) × ((node u d).process ≡ Running k)
    × SaysEntry s k.book k.votes k.seat.position.round line e
TypedAs what v u c e = ⊥

abbrev pub Fits : {Disk : Type 0} → Happening Disk → Configuration Disk → Configuration Disk → Event → Type 0
Fits what v u (Event.Pen c e) = TypedAs what v u c e
Fits what v u event = Unit {0}

module _ {Disk : Type 0} where
  pub last_on : (w : Configuration Disk) (ms more : List (Moment Disk Refusal)) → last_of w (more ++ ms) ≡ last_of (last_of w ms) more
  last_on w ms more = grind arith

module _ {Disk : Type 0} (s : Setting Disk Refusal) (game : ℕ) where
  -- A run of at most two events from one configuration to the other: each fits what happened in configuration `v`, and if that
  -- is quiet, they play it.
  pub record Leads (what : Happening Disk) (v from new : Configuration Disk) : Type 0 where
    pub moments : List (Moment Disk Refusal)
    pub few : length moments ≤ 2
    pub run : Run s from moments
    pub ends : last_of from moments ≡ new
    pub fits : AtEachEvent from moments (λ u m. Fits what v u m.event)
    pub plays : IsQuiet what → AllCalm moments × Plays game v what moments

  pub run_on : (w : Configuration Disk) (ms more : List (Moment Disk Refusal)) → Run s w ms → Run s (last_of w ms) more → Run s w (more ++ ms)
  run_on w ms [] r q = r
  run_on w ms (m ∷ more) r q = (run_on w ms more r q.0, rw (last_on w ms more) q.1)

  pub goes_from : (what : Happening Disk) (w : Configuration Disk) (ms : List (Moment Disk Refusal)) (v new : Configuration Disk)
      → v ≡ last_of w ms → Run s w ms → Leads what v v new → GoesOn s w ms new
  goes_from what w ms v new e r l =
      let on = subst (λ (z : Configuration Disk). Run s z l.moments × (last_of z l.moments ≡ new)) e (l.run, l.ends) in
      (l.moments, l.few, run_on w ms l.moments r on.0, last_on w ms l.moments ∙ on.1)

  module _ (what : Happening Disk) (v new : Configuration Disk) where
    pub none : v ≡ new → (IsQuiet what → Plays game v what []) → Leads what v v new
    none e plays = record { moments = []; few = omega arith; run = tt; ends = e; fits = tt; plays = λ q. (tt, plays q) }

    abbrev pub IsPlayed : Event → Answer Refusal → Type 0
    IsPlayed event answer = IsQuiet what → IsCalm event × Plays game v what (record { event = event; answer = answer; after = new } ∷ [])

    pub one : (event : Event) (answer : Answer Refusal) → Fits what v v event → IsPlayed event answer → Step s v event answer new → Leads what v v new
    one event answer fits plays step = record {
      moments = record { event = event; answer = answer; after = new } ∷ [];
      few = omega arith;
      run = (tt, step);
      ends = refl;
      fits = (tt, fits);
      plays = λ q. ((tt, (plays q).0), (plays q).1);
    }

    pub two : (first second : Event) (answer told : Answer Refusal) (u : Configuration Disk) → (IsQuiet what → ⊥) → Fits what v v first → Fits what v u second
        → Step s v first answer u → Step s u second told new → Leads what v v new
    two first second answer told u loud f g h j = record {
      moments = record { event = second; answer = told; after = new } ∷ record { event = first; answer = answer; after = u } ∷ [];
      few = omega arith;
      run = ((tt, h), j);
      ends = refl;
      fits = ((tt, f), g);
      plays = λ q. absurd (loud q);
    }
