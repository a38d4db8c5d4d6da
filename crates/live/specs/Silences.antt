-- A station's process is silent for half a second of its clock at most.
use Rattle.std.specs.Prelude.{◌≡◌, ◌≤◌, ◌⊎◌, ◌+◌, ℕ, List, [], ◌∷◌, Some, IfSome}
use Rattle.agree_core.specs.declared.messages.Message.{Message}
use Rattle.live.specs.Runs.{Kind, Moment, Run, last_of}
use Rattle.live.specs.Ticks.{Tick, TurnEnd}

module _ {State Call : Type 0} (kind : Kind State Call) where
  -- the station ticks in one of these moments
  abbrev pub HasTicked : List (Moment State Call) → Type 0
  HasTicked [] = ⊥
  HasTicked (m ∷ ms) = (kind.beat m.call ≡ Tick) ⊎ HasTicked ms

  -- the clock showed this or less at the station's last tick, if it has ticked
  abbrev pub TickedBy : ℕ → State → Type 0
  TickedBy then k = IfSome (kind.ticking k).ticked (λ ticked. ticked ≤ then)

  -- If a run of a station's process ends with a turn in which its clock, when looked at, showed half a second or more beyond
  -- its last tick before the run, then the run has a tick. Nothing else that the clock showed matters: it may stand, jump and
  -- go back.
  pub record IsNeverSilent : Type 0 where
    pub ticks : (k l : State) (call : Call) (out : List Message) (ms : List (Moment State Call)) (then now : ℕ)
        → Run kind k ms → kind.Step (last_of k ms) call out l → kind.beat call ≡ TurnEnd
        → (kind.ticking (last_of k ms)).looked ≡ Some now → TickedBy then k → then + 500 ≤ now → HasTicked ms
    -- the station looks at its clock in each turn
    pub looks : (k l : State) (call : Call) (out : List Message) → kind.Step k call out l → kind.beat call ≡ TurnEnd
        → (now : ℕ) × ((kind.ticking k).looked ≡ Some now)
