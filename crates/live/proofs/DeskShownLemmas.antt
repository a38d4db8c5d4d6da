-- What a page shows of a desk, besides the rows that the desk tells.
use Rattle.std.proofs.Common.{[], ◌∷◌, ℕ, ap, refl, sym, ◌∙◌}
use Rattle.std.proofs.lemmas.List.Elements.{All-cons, All-nil}
use Rattle.corrections.specs.declared.book_of.BookOf.{Ghosts as Books}
use Rattle.entry_log.specs.declared.{disk.Disk.Ghosts as Disks, slots_of.SlotsOf.Ghosts as Files}
use Rattle.agree_core.specs.Desks.{DeskState}
use Rattle.cards.specs.Sheet.{Sheet}
use Rattle.desk.specs.declared.desk.Desk.{Desk}
use Rattle.desk.specs.Desk.{state_of}
use Rattle.station_texts.specs.declared.warned.Warned.{Warned}
use Rattle.screen.specs.Sights.{DeskSight}
use Rattle.live.specs.DeskSights.{IsSeen, IsShown, desk_sight}
use Rattle.live.specs.Desks.{DeskCall, DeskGoes, DeskProcess, innings_of, kind_of, process_of}
use Rattle.live.specs.Ends.{Course, further}
use Rattle.live.specs.Runs.{Kind, Logs}
use Rattle.station_texts.specs.Texts.{unwarned}
use Rattle.live.specs.Ticks.{Ticking, unticked}

-- nothing is shown yet
pub none_shown : {Disk Page : Type 0} (kind : Kind (DeskProcess Disk) DeskCall) (sheet : Sheet) (innings : ℕ) (goes_on : Page → DeskSight → Page → Type 0) (k : DeskState Disk) (page : Page)
    → IsShown kind sheet innings goes_on k page page
none_shown kind sheet innings goes_on k page = ([], All-nil (IsSeen kind sheet innings k), refl)

module _ {S B D Page : Type 0} {g : Files S D} {h : Disks D} {b : Books B} {goes_on : Page → DeskSight → Page → Type 0} {sheet : Sheet} {k l : Desk S B D g h b} where
  -- next, what is seen of the desk to which its process has gone
  pub then_shown : {old page new : Page} {warned : Warned} {turns : ℕ} {ticking : Ticking} {course : Course} {a c : Logs}
      → IsShown (kind_of sheet k) sheet (innings_of k) goes_on (state_of k) old page
      → DeskGoes sheet k l (process_of k unwarned 0 unticked further) (process_of l warned turns ticking course) a c
      → goes_on page (desk_sight sheet (innings_of l) (state_of l)) new
      → IsShown (kind_of sheet k) sheet (innings_of k) goes_on (state_of k) old new
  then_shown {page = page} shown goes on =
      let sight = desk_sight sheet (innings_of l) (state_of l) in
      let same = ap (λ n. desk_sight sheet n (state_of l)) goes.same.innings_a_side ∙ ap (λ (p : DeskProcess D). desk_sight sheet (innings_of k) p.desk) (sym goes.goes.last) in
      let seen : IsSeen (kind_of sheet k) sheet (innings_of k) (state_of k) sight = (goes.goes.moments, goes.goes.run, same) in
      (sight ∷ shown.0, All-cons (IsSeen (kind_of sheet k) sheet (innings_of k) (state_of k)) sight shown.0 seen shown.1, (page, shown.2, on))
