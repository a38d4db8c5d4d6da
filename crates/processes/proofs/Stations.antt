-- The contracts of `live` describe parts of a station's life.
use Rattle.std.proofs.Common.{arith, Result, ◌≡◌, ℕ, List, [], ◌++◌, ap, inl, inr, refl, sym, ◌∙◌, subst}
use Rattle.notation.specs.declared.entry.Entry.{Entry}
use Rattle.corrections.specs.CleanList.{history_of}
use Rattle.corrections.specs.declared.book_of.BookOf.{Ghosts as Books}
use Rattle.entry_log.specs.Disk.{Faults, Images}
use Rattle.entry_log.specs.declared.{disk.Disk.Ghosts as Disks, slots_of.SlotsOf.Ghosts as Files}
use Rattle.vote_store.specs.View.{file_view}
use Rattle.agree_core.specs.Boards.{BoardState}
use Rattle.agree_core.specs.FileView.{FileView}
use Rattle.agree_core.specs.Openings.{NotOpened, Opened, Opening}
use Rattle.headline.specs.declared.version.FileVersion.{FileVersion}
use Rattle.cards.specs.Board.{board as board_text}
use Rattle.board.specs.declared.board.Board.{Board}
use Rattle.board.specs.Board as board
use Rattle.desk.specs.declared.{desk.Desk.Desk, refusal.OpenRefusal.OpenRefusal}
use Rattle.desk.specs.Desk.{disk_of}
use Rattle.headline.specs.Configurations.{Running}
use Rattle.live.specs.Boards as boards
use Rattle.live.specs.Boards.{BoardTurn, board_kind}
use Rattle.live.specs.Runs as own
use Rattle.live.specs.Runs.{LogsGrow, known_where, with_told}
use Rattle.live.specs.Ticks.{unticked}
use Rattle.live.specs.DeskLife.{BeginsOn, Follows}
use Rattle.live.specs.Desks.{DeskCall, DeskProcess, DiskView, FitsLongest}
use Rattle.processes.specs.Printing.{HandsBook}
use Rattle.processes.specs.Lives.{IsLife}
use Rattle.processes.specs.Stations.{BeginningIsStage, BoardLifeIsProcess, DeskLifeIsLife, DeskRunIsStage, ProcessLogs, process_stages}

module _ {S B D : Type 0} {g : Files S D} {h : Disks D} {b : Books B} where
  pub beginning : (made : Result (Desk S B D g h b) (OpenRefusal × D)) → BeginningIsStage made
  beginning made = grind arith

  pub desk_run : (old new : Desk S B D g h b) → DeskRunIsStage old new
  desk_run old new sheet before after turns result r =
      let goes = r.goes.goes in
      (goes.moments, (g.room, h.cap (disk_of old), goes.run), ap (λ (p : DeskProcess D). Running p.desk) goes.last ∙ ap Running r.is, goes.logs)

module _ {Disk : Type 0} (seen : Disk → List ℕ) (images : Disk → Images) (faults : Disk → Faults) where
  pub desk_life : DeskLifeIsLife seen images faults
  desk_life contents d x votes disk sheet innings room cap before after turns result down l =
      lived l.opening l.begins l.follows
    where
      view : FileVersion → FileView Disk
      view version = file_view (contents version) seen images d sheet.game

      disks : DiskView Disk
      disks = record { faults = faults; FitsLongest = FitsLongest room cap }

      lived : (opening : Opening Disk) → BeginsOn (view x.version) seen innings d disk opening
          → Follows sheet (view x.version) disks innings opening before after turns result
          → (opening : Opening Disk) × (calls : List (own.Moment (DeskProcess Disk) DeskCall))
          × IsLife view seen faults d sheet.game innings x (process_stages sheet opening calls)
          × ProcessLogs (view x.version) disks sheet innings opening calls before after result
      lived (Opened k) begins f = (Opened k, f.3.moments, ((tt, (votes, disk, down, begins)), (refl, (room, cap, f.3.run))), (f.0, f.2, f.3.logs))
      lived (NotOpened cause left) begins f = (NotOpened cause left, [], (tt, (votes, disk, down, begins)), f.3)

module _ {B : Type 0} {g : _} (content : B → List Entry) (innings_of : B → ℕ) where
  pub board_life : (old new : Board B g) → BoardLifeIsProcess content innings_of old new
  board_life old new sheet before after turns noted notes seen sees result new_board r =
      let goes = r.runs.goes.goes in
      let innings = innings_of (board.book_of old) in
      let kind = board_kind sheet (board.game_of old) innings in
      let from : BoardState → BoardTurn = λ k. boards.begun k 0 boards.unheard unticked noted (seen ++ r.first) in
      let Lives : BoardState → Type 0 = λ k.
      HandsBook sheet innings k.book r.first × own.Run kind (from k) goes.moments × ((λ (t : BoardTurn). t.board) (own.last_of (from k) goes.moments) ≡ board.state_of content new)
      × LogsGrow kind (from k) goes.moments (known_where result (with_told before (board_text sheet innings (history_of k.book)))) (known_where result after)
      × (sees ≡ (λ (t : BoardTurn). t.seen) (own.last_of (from k) goes.moments)) in
      let lives = subst Lives new_board (
        elim r.shows_first [ inl is ↦ inl is | inr none ↦ inr none.0 ],
        goes.run,
        ap (λ (t : BoardTurn). t.board) goes.last ∙ r.runs.is,
        goes.logs,
        sym r.runs.sighted ∙ sym (ap (λ (t : BoardTurn). t.seen) goes.last),
      ) in
      (record { sheet = sheet; noted = noted; seen = seen ++ r.first; first = r.first; calls = goes.moments }, refl, (lives.0, lives.1), lives.2, lives.3, refl, lives.4)
