-- A desk that has begun and run has lived.
use Rattle.std.proofs.Common.{◌≡◌, ◌<◌, ◌∙◌, Err, List, Result, length, refl, subst, ℕ}
use Rattle.corrections.specs.declared.book_of.BookOf.{Ghosts as Books}
use Rattle.entry_log.specs.Disk.{Faults}
use Rattle.entry_log.specs.declared.{disk.Disk.Ghosts as Disks, slots_of.SlotsOf.Ghosts as Files}
use Rattle.agree_core.specs.declared.messages.DeskId.{DeskId}
use Rattle.agree_core.specs.FileView.{FileView}
use Rattle.agree_core.specs.Openings.{Creates, NotOpened, Opened, Opening, Opens}
use Rattle.corrections.specs.Refusal.{book_refusal}
use Rattle.desk.specs.Answers.{open_cause}
use Rattle.desk.specs.declared.{refusal.OpenRefusal.OpenRefusal, desk.Desk.Desk}
use Rattle.vote_store.specs.View.{file_view}
use Rattle.cards.specs.Sheet.{Sheet}
use Rattle.desk.specs.Desk.{IsDeskOf, disk_of, state_of}
use Rattle.live.specs.DeskLife.{BeginsOn, DeskLives, ended, fresh}
use Rattle.live.specs.declared.desk_life.LifeEnd.TheVariants.{NotBegun}
use Rattle.screen.specs.Sights.{DeskSight}
use Rattle.live.specs.DeskSights.{IsShown, IsShownFrom}
use Rattle.live.specs.Desks.{DeskCall, DeskProcess, DeskRuns, DiskView, FitsLongest, desk_kind, innings_of, kind_of, own_line, with_greeting}
use Rattle.live.specs.Ends.{known_in}
use Rattle.live.specs.Runs.{Goes, Kind, Logs}
use Rattle.station_texts.specs.Texts.{greeting}
use Rattle.live.specs.declared.ends.DeskEnd.{DeskEnd}

-- disks with this cap
abbrev disks_with : {D : Type 0} → (D → Faults) → (ℕ → ℕ) → ℕ → DiskView D
disks_with faults room most = record { faults = faults; FitsLongest = FitsLongest room most }

module _ {S B D : Type 0} {g : Files S D} {h : Disks D} {b : Books B} {k : Desk S B D g h b} (sheet : Sheet) {d : DeskId} {innings game : ℕ} {disk : D}
    (is : game ≡ sheet.game)
    (creates : length (h.seen disk) ≡ 0 → Creates (file_view g.contents h.seen h.images d game) d (state_of k))
    (opens : 0 < length (h.seen disk) → Opens (file_view g.contents h.seen h.images d game) (book_refusal innings) d disk (Opened (state_of k)))
    (owner : IsDeskOf d game innings k) (cap_is : h.cap (disk_of k) ≡ h.cap disk) where
  begins_here : BeginsOn (file_view g.contents h.seen h.images d sheet.game) h.seen innings d disk (Opened (state_of k))
  begins_here = (λ none. rw (← is) (creates none), λ some. rw (← is) (opens some))

  -- the kind of its runs
  abbrev Here : Kind (DeskProcess D) DeskCall
  Here = desk_kind sheet (file_view g.contents h.seen h.images d sheet.game) (disks_with h.faults g.room (h.cap disk)) sheet.game innings

  is_here : kind_of sheet k ≡ Here
  is_here = λ i. let of = owner.same_game ∙ is in
      desk_kind sheet (file_view g.contents h.seen h.images (owner.same_desk i) (of i)) (disks_with h.faults g.room (cap_is i)) (of i) (owner.innings_a_side i)

  -- what was shown of a desk that has begun on this disk
  pub begun_shown : {Page : Type 0} {goes_on : Page → DeskSight → Page → Type 0} {old new : Page} → IsShown (kind_of sheet k) sheet (innings_of k) goes_on (state_of k) old new
      → (opening : Opening D) × BeginsOn (file_view g.contents h.seen h.images d sheet.game) h.seen innings d disk opening × IsShownFrom Here sheet innings goes_on opening old new
  begun_shown {goes_on = goes_on} {old = old} {new = new} shown =
      (Opened (state_of k), begins_here, subst (λ (kind : Kind (DeskProcess D) DeskCall). IsShown kind sheet innings goes_on (state_of k) old new) is_here (rw (← owner.innings_a_side) shown))

  -- a desk that has begun on this disk, and then ran
  pub begun_ran : {l : Desk S B D g h b} {before after : Logs} {turns : ℕ} {end : Result (Unit {0}) DeskEnd} → DeskRuns sheet k l before after turns end
      → DeskLives (file_view g.contents h.seen h.images d sheet.game) h.seen (disks_with h.faults g.room (h.cap disk)) sheet innings d disk before after turns (ended end)
  begun_ran {before = before} {after = after} {end = end} r =
      let told = with_greeting before (greeting sheet innings (state_of k).book (state_of k).seat.position (own_line (state_of k))) in
      let goes = subst (λ (kind : Kind (DeskProcess D) DeskCall). Goes kind (fresh (state_of k)) r.last (known_in end told) (known_in end after)) is_here (rw (← owner.innings_a_side) r.goes.goes) in
      record { opening = Opened (state_of k); begins = begins_here; follows = (end, r.last, refl, goes, r.ended) }

module _ {D : Type 0} (view : ℕ → FileView D) (seen : D → List ℕ) (disks : DiskView D) (why : OpenRefusal) (left : D) (sheet : Sheet) (d : DeskId) {game : ℕ} (innings : ℕ) (disk : D)
    (is : game ≡ sheet.game) (opens : 0 < length (seen disk) → Opens (view game) (book_refusal innings) d disk (NotOpened (open_cause why) left)) where
  none_begins : BeginsOn (view sheet.game) seen innings d disk (NotOpened (open_cause why) left)
  none_begins = (λ none. tt, λ some. rw (← is) (opens some))

  -- a beginning that was refused
  pub not_begun : {logs : Logs} {turns : ℕ} → DeskLives (view sheet.game) seen disks sheet innings d disk logs logs turns (Err (NotBegun why))
  not_begun = record { opening = NotOpened (open_cause why) left; begins = none_begins; follows = (why, refl, refl, refl) }

  -- nothing is shown after a beginning that was refused
  pub none_begun : {Page : Type 0} {goes_on : Page → DeskSight → Page → Type 0} {page : Page}
      → (opening : Opening D) × BeginsOn (view sheet.game) seen innings d disk opening × IsShownFrom (desk_kind sheet (view sheet.game) disks sheet.game innings) sheet innings goes_on opening page page
  none_begun = (NotOpened (open_cause why) left, none_begins, refl)
