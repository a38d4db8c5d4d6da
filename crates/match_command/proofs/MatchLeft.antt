-- What both disks hold after a match that a fault ended.
use Rattle.std.proofs.Common.{◌≡◌, ℕ, List, inr, subst}
use Rattle.notation.specs.declared.entry.Entry.{Entry}
use Rattle.corrections.specs.declared.book_of.BookOf.{Ghosts as Books}
use Rattle.entry_log.specs.Format.{contents}
use Rattle.entry_log.specs.Version2.{version_2}
use Rattle.entry_log.specs.declared.{disk.Disk.Ghosts as Disks, slots_of.SlotsOf.Ghosts as Files}
use Rattle.agree_core.specs.declared.messages.DeskId.{DeskId}
use Rattle.agree_core.specs.FileView.{FileView, Holds}
use Rattle.vote_store.specs.View.{file_view}
use Rattle.cards.specs.Sheet.{Sheet}
use Rattle.desk.specs.declared.desk.Desk.{Desk}
use Rattle.desk.specs.Desk.{desk_of, disk_of, game_of, view_of}
use Rattle.match_command.specs.declared.match_run.fault.MatchFault.{MatchFault}
use Rattle.match_command.specs.MatchRun.{HoldsEither, KeepsBook, Leaves, desk_view, votes_for}
use Rattle.match_command.specs.inner.Turns.{DiskHolds, DiskHoldsEither, LinesLeave}
use Rattle.match_command.proofs.VoteLists.{are_for}

module _ {S B D : Type 0} {g : Files S D} {h : Disks D} {b : Books B} where
  -- a desk's disk as a file of version 2 of the match
  module _ (desk : Desk S B D g h b) (s : Sheet) (d : DeskId) (is : g.contents ≡ contents version_2) (of : desk_of desk ≡ d) (game : game_of desk ≡ s.game) where
    view_is : view_of desk ≡ desk_view h.seen h.images s d
    view_is = λ i. file_view (is i) h.seen h.images (of i) (game i)

    pub keeps_book : (book : List Entry) → DiskHolds desk book → KeepsBook h.seen h.images s d (disk_of desk) book
    keeps_book book held = record { held = subst (λ (v : FileView D). Holds v (disk_of desk) (votes_for book)) view_is held; last = (are_for book).voted }

    keeps_either : (book more : List Entry) → DiskHoldsEither desk book more → HoldsEither (desk_view h.seen h.images s d) (disk_of desk) book more
    keeps_either book more held = subst (λ (v : FileView D). HoldsEither v (disk_of desk) book more) view_is held

  -- what the desks leave on their disks is what the run leaves
  module _ (x y : Desk S B D g h b) (s : Sheet) (input : List ℕ) (is : g.contents ≡ contents version_2) (is_a : desk_of x ≡ DeskId.A) (is_b : desk_of y ≡ DeskId.B)
      (game_a : game_of x ≡ s.game) (game_b : game_of y ≡ s.game) (a b' : D) where
    pub lines_left : (fault : MatchFault) → LinesLeave s.innings input fault x y → Leaves h.seen h.images s input fault a b' (disk_of x) (disk_of y)
    lines_left (MatchFault.Line number why) l = (l.0, l.1, (keeps_book x s DeskId.A is is_a game_a _ l.2.0, keeps_book y s DeskId.B is is_b game_b _ l.2.1))
    lines_left (MatchFault.NotAgreed place) l = rw l.1 (keeps_book x s DeskId.A is is_a game_a _ l.2.0, keeps_book y s DeskId.B is is_b game_b _ l.2.1)
    lines_left MatchFault.Write l = (keeps_book x s DeskId.A is is_a game_a _ l.0, keeps_book y s DeskId.B is is_b game_b _ l.1)
    lines_left MatchFault.Device l = inr (l.0, keeps_either x s DeskId.A is is_a game_a _ _ l.2.0, keeps_either y s DeskId.B is is_b game_b _ _ l.2.1)
    lines_left fault l = absurd l.2
