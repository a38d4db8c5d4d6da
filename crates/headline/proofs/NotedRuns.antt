-- In each run seats and readers keep exactly the noted votes.
use Rattle.std.proofs.Common.{inl, inr, arith, ◌≡◌, ℕ, suc, None, option_and_then, List, [], ◌∷◌, refl, ap, ◌∙◌}
use Rattle.agree_core.specs.declared.messages.{DeskId.DeskId}
use Rattle.agree_core.specs.Boards.{BoardState}
use Rattle.agree_core.specs.Readers.{noted_of}
use Rattle.headline.specs.declared.{event.Station.Station, version.FileVersion.FileVersion}
use Rattle.headline.specs.Events.{station_of}
use Rattle.headline.specs.Setting.{Setting}
use Rattle.headline.specs.Configurations.{Node, Configuration, board_at, fresh_boards, node}
use Rattle.headline.specs.Steps.{Step}
use Rattle.headline.specs.Runs.{Begins, BeginsAt, Moment, Run, last_of, AfterEach}
use Rattle.headline.specs.KeptVotes.{KeepsNoted, kept_at, kept_by_process}
use Rattle.headline.proofs.AtStations.{at_board, at_desk}
use Rattle.headline.proofs.Keeping.{Fine, begins_fine, run_keeps}
use Rattle.headline.proofs.Noting.{Leaves, follows}
use Rattle.headline.proofs.Heeding.{some_none}
use Rattle.headline.proofs.NotingSteps.{board_leaves, desk_leaves, elsewhere, same_board, same_process}

fresh_kept : (boards n : ℕ) (c : DeskId) → option_and_then (λ (k : BoardState). noted_of k.reader c) (board_at (fresh_boards boards) n) ≡ None
fresh_kept (suc boards) (suc (suc n)) c = fresh_kept boards (suc n) c
fresh_kept boards n c = grind arith

module _ {Disk Why : Type 0} (s : Setting Disk Why) where
  step_leaves : (w : Configuration Disk) (m : Moment Disk Why) (t : Station) → Fine s w → Step s w m.event m.answer m.after → Leaves s w m t
  step_leaves w m (Station.Desk d) f p = elim (at_desk s w m.event m.answer m.after (station_of m.event) d p) [
    | inl e ↦ elsewhere s w m (Station.Desk d) e.0 (same_process s w m.after d (ap (λ (z : Node Disk). z.process) e.1))
    | inr h ↦ desk_leaves s w m d m.event (node m.after d) h.1 f refl h.0 refl h.2
  ]
  step_leaves w m (Station.Board n) f p = elim (at_board s w m.event m.answer m.after (station_of m.event) n p) [
    | inl e ↦ elsewhere s w m (Station.Board n) e.0 (same_board s w m.after n e.1)
    | inr h ↦ board_leaves s w m n m.event h.1 h.2 h.3 refl h.0 h.4 h.5 h.6
  ]

  begins_none : (version : FileVersion) (n : ℕ) (w : Configuration Disk) → Begins s version n w → (t : Station) (c : DeskId) → kept_at w t c ≡ None
  begins_none version n w e (Station.Board i) c = ap (λ (z : List BoardState). option_and_then (λ (k : BoardState). noted_of k.reader c) (board_at z i)) e.boards_are_fresh ∙ fresh_kept n i c
  begins_none version n w e h4 c = grind arith

  pub keeps_noted : (version : FileVersion) (n : ℕ) (w : Configuration Disk) (ms : List (Moment Disk Why)) → Begins s version n w → Run s w ms → KeepsNoted s w ms
  keeps_noted version n w [] e r t c b = (λ h. absurd h, λ k. absurd (some_none (kept_at w t c) b.entry (begins_none version n w e t c) k.1))
  keeps_noted version n w (m ∷ ms) e r t c b =
      let f = run_keeps s w ms (begins_fine s version n w e) r.0 in
      follows s w m ms t (step_leaves (last_of w ms) m t f r.1) (λ d a. keeps_noted version n w ms e r.0 t d a) c b

  pub after_each : (w : Configuration Disk) (ms : List (Moment Disk Why)) (P : List (Moment Disk Why) → Type 0) → ((ms : List (Moment Disk Why)) → Run s w ms → P ms) → Run s w ms → AfterEach ms P
  after_each w [] P h r = h [] r
  after_each w (m ∷ ms) P h r = (h (m ∷ ms) r, after_each w ms P h r.0)
