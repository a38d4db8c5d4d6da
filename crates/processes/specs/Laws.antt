-- What happens to processes is a run of the definitions, so the headline holds of it.
use Rattle.std.specs.Prelude.{◌≡◌, ◌≤◌, ℕ, List, [], ◌∷◌, ◌++◌, length, Some, None}
use Rattle.corrections.specs.declared.refusal.Refusal.{Refusal}
use Rattle.cards.specs.Sheet.{Sheet}
use Rattle.entry_log.specs.Disk.{Images}
use Rattle.entry_log.specs.Slots.{FileContents}
use Rattle.vote_store.specs.View.{file_view}
use Rattle.agree_core.specs.declared.messages.{DeskId.DeskId, Message.Message}
use Rattle.agree_core.specs.Boards.{BoardState}
use Rattle.agree_core.specs.Desks.{DeskState}
use Rattle.headline.specs.declared.version.FileVersion.{FileVersion}
use Rattle.headline.specs.Configurations.{Running, Configuration, board_at, node, with_board}
use Rattle.headline.specs.Runs.{Begins, Moment, Run, last_of}
use Rattle.headline.specs.Laws.{HoldsInRun}
use Rattle.headline.specs.Match.{setting_of}
use Rattle.headline.specs.Setting.{Setting}
use Rattle.live.specs.Boards.{BoardCall, BoardStep}
use Rattle.live.specs.Desks.{DeskCall, DeskStep}
use Rattle.processes.specs.Happenings.{BoardCame, DeskCame, Flow, Happening, after, with_process}
use Rattle.processes.specs.Headline.{ProcessHeadline}

-- the run goes on, by at most two events, to this configuration
abbrev pub GoesOn :
    {Disk : Type 0} → Setting Disk Refusal → Configuration Disk → List (Moment Disk Refusal) → Configuration Disk → Type 0
GoesOn s w ms new =
    (more : List (Moment _ Refusal)) × (length more ≤ 2) × Run s w (more ++ ms) × (last_of w (more ++ ms) ≡ new)

-- the run goes through all happenings, one after the other, with at most two events for each
abbrev pub GoesThrough :
    {Disk : Type 0} → Configuration Disk → List (Moment Disk Refusal) → List (Happening Disk) → Type 0
GoesThrough w ms [] = ms ≡ []
GoesThrough w ms (h ∷ hs) =
    (more : List (Moment _ Refusal)) × (rest : List (Moment _ Refusal)) × (length more ≤ 2)
    × (ms ≡ more ++ rest) × GoesThrough w rest hs × (last_of w ms ≡ after w (h ∷ hs))

module _ {Disk : Type 0} (seen : Disk → List ℕ) (images : Disk → Images) where
  -- A moment of a board's process extends a run that has come to this configuration, if its datagram was sent before or reads
  -- as no message of the match. The run goes on to the configuration with the new board and the messages that it handed out.
  abbrev pub BoardStepsInRun : Type 0
  BoardStepsInRun =
      (contents : FileVersion → FileContents) (game innings : ℕ) (w : Configuration Disk) (ms : List (Moment Disk Refusal))
      → Run (setting_of contents seen images game innings) w ms → (v : Configuration Disk) → v ≡ last_of w ms
      → (n : ℕ) (k l : BoardState) (call : BoardCall) (out : List Message) → board_at v.boards n ≡ Some k
      → BoardCame game v.sent call → BoardStep game innings k call out l
      → GoesOn (setting_of contents seen images game innings) w ms
      (record v { boards = with_board v.boards n l; sent = v.sent ++ out })

  -- likewise for a desk's process, with any sheet, if no fault is due on its disk
  abbrev pub DeskStepsInRun : Type 0
  DeskStepsInRun =
      (contents : FileVersion → FileContents) (game innings : ℕ) (w : Configuration Disk) (ms : List (Moment Disk Refusal))
      → Run (setting_of contents seen images game innings) w ms → (v : Configuration Disk) → v ≡ last_of w ms
      → (d : DeskId) (s : Sheet) (k l : DeskState Disk) (call : DeskCall) (out : List Message)
      → (node v d).process ≡ Running k
      → (node v d).due ≡ None → DeskCame game v.sent call
      → DeskStep s (file_view (contents (node v d).version) seen images d game) game innings k call out l
      → GoesOn (setting_of contents seen images game innings) w ms (with_process v d (Running l) out)

  -- Of all that happens to the processes of two desks that were just created and of boards:
  module _ (contents : FileVersion → FileContents) (game innings : ℕ) where
    abbrev pub IsFlow : FileVersion → ℕ → Configuration Disk → List (Happening Disk) → Type 0
    IsFlow version boards w hs =
        Begins (setting_of contents seen images game innings) version boards w
        × Flow (λ d version. file_view (contents version) seen images d game) game innings w hs

  -- a run of the definitions goes through each flow, and all that holds of every run holds of it
  abbrev pub FlowsAreRuns : Type 0
  FlowsAreRuns =
      (contents : FileVersion → FileContents) (game innings : ℕ) (version : FileVersion) (boards : ℕ) (w : Configuration Disk)
      (hs : List (Happening Disk)) → IsFlow contents game innings version boards w hs
      → (ms : List (Moment Disk Refusal)) × Run (setting_of contents seen images game innings) w ms
      × GoesThrough w ms hs × HoldsInRun (setting_of contents seen images game innings) innings w ms

  -- so the headline holds of each flow
  abbrev pub FlowsHaveHeadline : Type 0
  FlowsHaveHeadline =
      (contents : FileVersion → FileContents) (game innings : ℕ) (version : FileVersion) (boards : ℕ) (w : Configuration Disk)
      (hs : List (Happening Disk)) → IsFlow contents game innings version boards w hs → ProcessHeadline game innings w hs
