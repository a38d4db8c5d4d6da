-- A station's process ticks in time.
use Rattle.std.proofs.Common.{◌≡◌, ◌⊎◌, ℕ, List, [], ◌∷◌, Option, None, Some, refl, ap, ◌∙◌, arith, inr, subst}
use Rattle.std.specs.Prelude.{IsSome}
use Rattle.agree_core.specs.declared.messages.Message.{Message}
use Rattle.agree_core.specs.FileView.{FileView}
use Rattle.cards.specs.Sheet.{Sheet}
use Rattle.live.specs.Boards.{BoardTurn, board_kind}
use Rattle.live.specs.Desks.{DeskProcess, DiskView, desk_kind}
use Rattle.live.specs.Runs.{Kind, Moment, Run, last_of}
use Rattle.live.specs.Silences.{HasTicked, IsNeverSilent}
use Rattle.live.specs.Ticks.{Beat, MayBeat, Tick, Ticking, TurnEnd, after_beat}

-- the last tick stays the last one, unless the station ticks
stays_or_ticks : (k : Ticking) (beat : Beat) → (beat ≡ Tick) ⊎ ((after_beat k beat).ticked ≡ k.ticked)
stays_or_ticks k beat = grind arith

looked_at : (looked : Option ℕ) → IsSome looked → (now : ℕ) × (looked ≡ Some now)
looked_at None h = cc
looked_at (Some now) h = (now, refl)

module _ {State Call : Type 0} (kind : Kind State Call) where
  -- each of its calls may come by its clock, which then goes on by what the call is to it
  abbrev KeepsTime : Type 0
  KeepsTime =
      (k l : State) (call : Call) (out : List Message) → kind.Step k call out l
      → MayBeat (kind.ticking k) (kind.beat call) × (kind.ticking l ≡ after_beat (kind.ticking k) (kind.beat call))

  module _ (keeps : KeepsTime) where
    ticked_or_same : (k : State) (ms : List (Moment State Call)) → Run kind k ms
        → HasTicked kind ms ⊎ ((kind.ticking (last_of k ms)).ticked ≡ (kind.ticking k).ticked)
    ticked_or_same k [] run = inr refl
    ticked_or_same k (m ∷ ms) run = grind (arith, ticked_or_same k ms run.0, keeps (last_of k ms) m.after m.call m.out run.2, stays_or_ticks (kind.ticking (last_of k ms)) (kind.beat m.call))

    ends_in_time : (k l : State) (call : Call) (out : List Message) → kind.Step k call out l → kind.beat call ≡ TurnEnd → MayBeat (kind.ticking k) TurnEnd
    ends_in_time k l call out step is = subst (MayBeat (kind.ticking k)) is (keeps k l call out step).0

    never_silent : IsNeverSilent kind
    never_silent = record {
      ticks = λ k l call out ms then now run step is looked by late.
          grind (arith, ticked_or_same k ms run, ends_in_time (last_of k ms) l call out step is);
      looks = λ k l call out step is. looked_at (kind.ticking k).looked (ends_in_time k l call out step is).0;
    }

pub desks_tick : {Disk : Type 0} (sheet : Sheet) (view : FileView Disk) (disks : DiskView Disk) (game innings : ℕ)
    → IsNeverSilent (desk_kind sheet view disks game innings)
desks_tick {Disk} sheet view disks game innings =
    never_silent (desk_kind sheet view disks game innings) (λ k l call out step. (step.5, ap (λ (p : DeskProcess Disk). p.ticking) step.3))

pub boards_tick : (sheet : Sheet) (game innings : ℕ) → IsNeverSilent (board_kind sheet game innings)
boards_tick sheet game innings =
    never_silent (board_kind sheet game innings)
    (λ k l call out step. (step.3, ap (λ (t : BoardTurn). t.ticking) step.2 ∙ grind arith))
