-- In the moments of a station no link is opened.
use Rattle.std.proofs.Common.{ℕ, Bool, List, [], ◌∷◌, ◌++◌, inl, inr}
use Rattle.agree_core.specs.declared.messages.{Asker.Asker, Message.Message}
use Rattle.links.specs.Passed.{Came, Opened, Passed, Sent, sends}
use Rattle.links.specs.Windows.{Has}
use Rattle.links.specs.declared.link.Receivers.{Receivers}
use Rattle.links.specs.declared.link.Receivers.TheVariants.{ToOne}
use Rattle.live.specs.Boards as boards
use Rattle.live.specs.Boards.{BoardCall, BoardTurn, board_kind}
use Rattle.live.specs.Desks as desks
use Rattle.live.specs.Desks.{DeskCall, DeskProcess, DiskView, desk_kind}
use Rattle.live.specs.Runs.{Kind, Moment, passed_in}
use Rattle.agree_core.specs.FileView.{FileView}
use Rattle.cards.specs.Sheet.{Sheet}

-- among these no link is opened
abbrev pub NoneOpened : List Passed → Type 0
NoneOpened passed = (station : Asker) (seals : List (List ℕ)) (is_of_pairs : Bool) → Has passed (Opened station seals is_of_pairs) → ⊥

pub none_in_none : NoneOpened []
none_in_none station seals is_of_pairs h = h

came_opens_none : (bytes : List ℕ) → NoneOpened (Came bytes ∷ [])
came_opens_none bytes station seals is_of_pairs (inl e) = cc
came_opens_none bytes station seals is_of_pairs (inr h) = h

handed_opens_none : (bytes back : List ℕ) → NoneOpened (Came bytes ∷ Sent ToOne back ∷ [])
handed_opens_none bytes back station seals is_of_pairs (inl e) = cc
handed_opens_none bytes back station seals is_of_pairs (inr (inl e)) = cc
handed_opens_none bytes back station seals is_of_pairs (inr (inr h)) = h

sends_open_none : (to : Receivers) (game : ℕ) (out : List Message) → NoneOpened (sends to game out)
sends_open_none to game [] station seals is_of_pairs h = h
sends_open_none to game (m ∷ out) station seals is_of_pairs (inl e) = cc
sends_open_none to game (m ∷ out) station seals is_of_pairs (inr h) = sends_open_none to game out station seals is_of_pairs h

both_open_none : (xs ys : List Passed) → NoneOpened xs → NoneOpened ys → NoneOpened (xs ++ ys)
both_open_none [] ys f g station seals is_of_pairs h = g station seals is_of_pairs h
both_open_none (x ∷ xs) ys f g station seals is_of_pairs (inl e) = f station seals is_of_pairs (inl e)
both_open_none (x ∷ xs) ys f g station seals is_of_pairs (inr h) =
    both_open_none xs ys (λ s k p i. f s k p (inr i)) g station seals is_of_pairs h

module _ {State Call : Type 0} (kind : Kind State Call) (given : (call : Call) → NoneOpened (kind.given call)) where
  moments_open_none : (ms : List (Moment State Call)) → NoneOpened (passed_in kind ms)
  moments_open_none [] = none_in_none
  moments_open_none (m ∷ ms) =
      both_open_none (passed_in kind ms) (kind.given m.call ++ sends (kind.receivers m.call) kind.game m.out) (moments_open_none ms)
      (both_open_none (kind.given m.call) (sends (kind.receivers m.call) kind.game m.out) (given m.call)
      (sends_open_none (kind.receivers m.call) kind.game m.out))

desk_opens_none : (call : DeskCall) → NoneOpened (desks.given call)
desk_opens_none (desks.Given bytes what) = came_opens_none bytes
desk_opens_none call = none_in_none

board_opens_none : (call : BoardCall) → NoneOpened (boards.given call)
board_opens_none (boards.Given bytes answer) = came_opens_none bytes
board_opens_none (boards.Parted bytes back) = handed_opens_none bytes back
board_opens_none (boards.Recalled bytes back) = handed_opens_none bytes back
board_opens_none (boards.PassedBy bytes) = came_opens_none bytes
board_opens_none call = none_in_none

pub desks_open_none : {Disk : Type 0} (sheet : Sheet) (view : FileView Disk) (disks : DiskView Disk) (game innings : ℕ)
    (ms : List (Moment (DeskProcess Disk) DeskCall)) → NoneOpened (passed_in (desk_kind sheet view disks game innings) ms)
desks_open_none sheet view disks game innings ms = moments_open_none (desk_kind sheet view disks game innings) desk_opens_none ms

pub boards_open_none : (sheet : Sheet) (game innings : ℕ) (ms : List (Moment BoardTurn BoardCall)) → NoneOpened (passed_in (board_kind sheet game innings) ms)
boards_open_none sheet game innings ms = moments_open_none (board_kind sheet game innings) board_opens_none ms
