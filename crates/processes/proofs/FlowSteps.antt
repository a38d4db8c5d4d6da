-- What happens to a process is a run of at most two events.
use Rattle.std.proofs.Common.{arith, ◌≡◌, ℕ, Option, Some, None, List, [], length, refl, sym, subst, append-nil}
use Rattle.corrections.specs.Refusal.{book_refusal}
use Rattle.corrections.specs.declared.refusal.Refusal.{Refusal}
use Rattle.agree_core.specs.declared.messages.{DeskId.DeskId, Message.Message}
use Rattle.agree_core.specs.declared.messages.DeskId.TheVariants.{A, B}
use Rattle.agree_core.specs.Ballots.{Ballot}
use Rattle.agree_core.specs.Boards.{BoardState, fresh_board}
use Rattle.agree_core.specs.Desks.{DeskState}
use Rattle.agree_core.specs.FileView.{MaySync, Stays}
use Rattle.agree_core.specs.Openings.{OpenRefusal, Opening, Opens}
use Rattle.entry_log.specs.declared.mem_disk.choice.Choice.{Choice}
use Rattle.headline.specs.declared.{event.Event.Event, event.Station.Station, fault.Fault.Fault}
use Rattle.headline.specs.declared.fault.Fault.TheVariants.{Fail}
use Rattle.headline.specs.declared.version.FileVersion.TheVariants.{Old, New}
use Rattle.headline.specs.Setting.{Setting}
use Rattle.headline.specs.Configurations.{Process, Running, Down, Node, Configuration, board_at, node, process_disk, process_votes, with_board, with_node}
use Rattle.headline.specs.Answers as answers
use Rattle.headline.specs.Answers.{Answer}
use Rattle.headline.specs.DeskFaults.{LosesPower}
use Rattle.headline.specs.Migrations.{Migrates, MigratesAt, ToNew}
use Rattle.headline.specs.DeskSteps.{AtDesk}
use Rattle.headline.specs.Events.{station_of}
use Rattle.processes.specs.Happenings.{Happening, DeskCalled, DeskEnded, DeskGreeted, PowerLost, DeskBegun, FileMigrated, BoardGreeted, BoardCalled, BoardBegun, Happens, after_one, begun, migrated, with_process}
use Rattle.processes.specs.Progress.{IsQuiet}
use Rattle.processes.proofs.Going.{Fits, Leads, none, one}
use Rattle.processes.proofs.BoardSteps.{board_moment, with_it}
use Rattle.processes.proofs.DeskSteps.{after_fault, at_desk, desk_moment, stays_refl}

module _ {Disk : Type 0} (s : Setting Disk Refusal) (game : ℕ) (v : Configuration Disk) (what : Happening Disk) (loud : IsQuiet what → ⊥) where
  abbrev Reaches : Configuration Disk → Type 0
  Reaches new = Leads s game what v v new

  module _ (d : DeskId) where
    -- the node with this process, and this fault due
    abbrev placed : Process Disk → Option Fault → Node Disk
    placed p due = record { version = (node v d).version; process = p; due = due }

    by_event : (event : Event) (answer : Answer Refusal) (y : Node Disk) → station_of event ≡ Station.Desk d → Fits what v v event → AtDesk s v.sent d event (node v d) answer y []
        → Reaches (with_node v d y [])
    by_event event answer y e f h = at_desk s game v d what event answer y [] e f (λ q. absurd (loud q)) h

    module _ (calm : (node v d).due ≡ None) where
      ended : (k : DeskState Disk) (disk : Disk) → (node v d).process ≡ Running k → Stays (s.view d (node v d).version) k.disk disk
          → Reaches (with_process v d (Down (process_votes (node v d).process) disk) [])
      ended k disk at h =
          rw calm (by_event (Event.Kill d) answers.Done (placed (Down (process_votes (node v d).process) disk) None) refl tt (k, at, (disk, rw at h, refl), refl, refl))

      power_lost : (disk : Disk) → LosesPower (s.view d (node v d).version) (process_disk (node v d).process) disk
          → Reaches (with_process v d (Down (process_votes (node v d).process) disk) [])
      power_lost disk h =
          rw calm (by_event (Event.Power d Choice.Kept) answers.Done (placed (Down (process_votes (node v d).process) disk) None) refl tt (disk, h, refl, refl, refl))

      -- the desk is down, with these votes
      module _ (votes : List Ballot) (disk : Disk) (at : (node v d).process ≡ Down votes disk) where
        not_opened : (left : Disk) → MaySync (s.view d (node v d).version) disk left → Reaches (with_process v d (Down votes left) [])
        not_opened left h =
            rw calm (after_fault s game v d what loud (placed (Down votes disk) (Some Fail)) (Event.Open d) answers.DeviceFailed (placed (Down votes left) None) []
            (rw at ((disk, stays_refl (s.view d (node v d).version) disk, refl), refl, refl)) refl tt
            (votes, disk, Opening.NotOpened OpenRefusal.DeviceFailed left, refl, h, (Fail, refl, (refl, refl)), refl))

        opened : (opening : Opening Disk) → Opens (s.view d (node v d).version) s.rules d disk opening → Reaches (with_process v d (begun votes opening) [])
        opened (Opening.Opened k) h =
            by_event (Event.Open d) (answers.Opened (length k.book)) (placed (Running k) (node v d).due) refl tt (votes, disk, Opening.Opened k, at, h, (refl, refl), refl)
        opened (Opening.NotOpened OpenRefusal.Unsound left) h =
            by_event (Event.Open d) answers.Unsound (placed (Down votes left) (node v d).due) refl tt
            (votes, disk, Opening.NotOpened OpenRefusal.Unsound left, at, h, (refl, refl), refl)
        opened (Opening.NotOpened (OpenRefusal.BadVotes place) left) h =
            by_event (Event.Open d) answers.NoBook (placed (Down votes left) (node v d).due) refl tt
            (votes, disk, Opening.NotOpened (OpenRefusal.BadVotes place) left, at, h, (refl, refl), refl)
        opened (Opening.NotOpened why left) h = not_opened left h

    -- the file of a desk that is down is migrated
    file_migrated : (had votes : List Ballot) (disk new : Disk) → (node v d).process ≡ Down had disk → (node v d).version ≡ Old
        → Migrates (s.view d) disk (ToNew votes new) → Reaches (with_node v d (migrated (node v d) new) [])
    file_migrated had votes disk new at old h =
        let y : Node Disk = record (node v d) { version = New; process = Down had new } in
        let at_old : MigratesAt {Why = Refusal} (s.view d) (node v d) Old had disk (answers.Migrated (length votes)) y = (ToNew votes new, h, (refl, refl)) in
        subst (λ (p : Process Disk). Reaches (with_node v d (record (node v d) { version = New; process = Down (process_votes p) new }) [])) (sym at)
        (by_event (Event.Migrate d) (answers.Migrated (length votes)) y refl tt (had, disk, at, rw old at_old, refl))

  wiped : (n : ℕ) (k : BoardState) → board_at v.boards n ≡ Some k → Reaches (record v { boards = with_board v.boards n fresh_board })
  wiped n k at =
      subst (λ (sent : List Message). Reaches (record v { boards = with_board v.boards n fresh_board; sent = sent })) (append-nil v.sent)
      (one s game what v (with_it v n fresh_board []) (Event.Wipe n) answers.Done tt (λ q. absurd (loud q)) (k, fresh_board, [], at, (refl, refl, refl), refl))

module _ {Disk : Type 0} where
  -- no fault is due
  abbrev pub IsCalm : Configuration Disk → Type 0
  IsCalm v = (d : DeskId) → (node v d).due ≡ None

  -- no fault is due after a happening either
  pub calm_after : (v : Configuration Disk) → IsCalm v → (what : Happening Disk) → IsCalm (after_one v what)
  calm_after v c what d = grind (arith, c A, c B)

module _ {Disk : Type 0} (s : Setting Disk Refusal) (game innings : ℕ) (rules : s.rules ≡ book_refusal innings) (v : Configuration Disk) (calm : IsCalm v) where
  opens : (what : Happening Disk) → (IsQuiet what → ⊥) → (d : DeskId) (votes : List Ballot) (disk : Disk) (opening : Opening Disk) → (node v d).process ≡ Down votes disk
      → Opens (s.view d (node v d).version) (book_refusal innings) d disk opening
      → Leads s game what v v (with_process v d (begun (process_votes (node v d).process) opening) [])
  opens what loud d votes disk opening at h =
      subst (λ (p : Process Disk). Leads s game what v v (with_process v d (begun (process_votes p) opening) [])) (sym at)
      (opened s game v what loud d (calm d) votes disk at opening (rw rules h))

  pub happening : (what : Happening Disk) → Happens s.view game innings v what → Leads s game what v v (after_one v what)
  happening (DeskGreeted d sheet text) h = none s game (DeskGreeted d sheet text) v v refl (λ q. absurd q)
  happening (DeskCalled d sheet call out l text) h = desk_moment s game innings rules v d (calm d) text sheet h.0 l out h.1 call h.2 h.3
  happening (DeskEnded d disk) h = ended s game v (DeskEnded d disk) (λ q. q) d (calm d) h.0 disk h.1 h.2
  happening (PowerLost d disk) h = power_lost s game v (PowerLost d disk) (λ q. q) d (calm d) disk h
  happening (DeskBegun d opening) h = opens (DeskBegun d opening) (λ q. q) d h.0 h.1 opening h.2 h.3
  happening (FileMigrated d votes new) h = file_migrated s game v (FileMigrated d votes new) (λ q. q) d h.0 votes h.1 new h.2 h.3 h.4
  happening (BoardGreeted n sheet text seen) h = none s game (BoardGreeted n sheet text seen) v v refl (λ q. absurd q)
  happening (BoardCalled n sheet call out l text seen) h =
      board_moment s game innings rules v (BoardCalled n sheet call out l text seen) n h.0 l out h.1 call (λ q ms p. p) h.2 h.3
  happening (BoardBegun n) h = wiped s game v (BoardBegun n) (λ q. q) n h.0 h.1
