-- A match of the program's stations: their lives, all that happened to them in one order, and what holds of that order.
use Rattle.std.specs.Prelude.{◌≡◌, ℕ, List, [], ◌∷◌, ◌++◌, All, None, map}
use Rattle.std.specs.List.{filter}
use Rattle.agree_core.specs.declared.messages.DeskId.{DeskId}
use Rattle.agree_core.specs.declared.messages.DeskId.TheVariants.{A, B}
use Rattle.agree_core.specs.FileView.{FileView}
use Rattle.entry_log.specs.Format.{contents}
use Rattle.entry_log.specs.Slots.{FileContents}
use Rattle.vote_store.specs.View.{file_view}
use Rattle.headline.specs.declared.version.FileVersion.{FileVersion}
use Rattle.headline.specs.declared.version.FileVersion.TheVariants.{New}
use Rattle.headline.specs.Configurations.{Configuration, board_at, node}
use Rattle.headline.specs.Match.{format_of, setting_of}
use Rattle.desk_command.specs.declared.desk_disk.DeskDisk.{DeskDisk}
use Rattle.desk_command.specs.Disks.{file_of, images_of}
use Rattle.processes.specs.Happenings.{Happening, after}
use Rattle.processes.specs.Headline.{ProcessHeadline}
use Rattle.processes.specs.Laws.{IsFlow}
use Rattle.processes.specs.Lives.{CallsMade, board_happens, life_happens}
use Rattle.processes.specs.Parting.{NoneIsParted, NoneTells}
use Rattle.processes.specs.Progress.{AllQuiet, GoOn}
use Rattle.processes.specs.Weaving.{is_at_board, is_at_desk, start}
use Rattle.sheet_stations.specs.Lives.{AllFollow, LifeOfBoard, LivesOfDesk, IsOfMatch, OpensFirst, all_stages, board_process, board_sheet, calls_of, opening_of, sheet_of}
use Rattle.sheet_stations.specs.Network.{NothingIsForged}

-- a match with this number and innings a side: how many boards it has, and the lives of each desk and each board, those of a
-- board the newest first
pub record Match : Type 0 where
  pub game : ℕ
  pub innings : ℕ
  pub count : ℕ
  pub desks : (desk : DeskId) → LivesOfDesk desk
  pub boards : ℕ → List LifeOfBoard

-- what a file shows, in either version
abbrev pub file_contents : FileVersion → FileContents
file_contents version = contents (format_of version)

-- both desks, as their first lives began them, and the boards
abbrev pub start_of : Match → Configuration DeskDisk
start_of m = start New m.count (m.desks A).begun (m.desks B).begun

module _ (m : Match) where
  -- what a disk shows of a desk's file
  abbrev pub view_of : DeskId → FileView DeskDisk
  view_of desk = file_view (file_contents New) file_of images_of desk m.game

  -- the lives of a desk: the first is of the match and made its file, or found no votes there; later ones follow by the disk
  pub record AreDesks (desk : DeskId) : Type 0 where
    pub first : IsOfMatch m.game m.innings (sheet_of (m.desks desk).first)
    pub opens : OpensFirst (m.desks desk).begun (opening_of (m.desks desk).first)
    pub follow : AllFollow (view_of desk) m.game m.innings (node (start_of m) desk)
        (CallsMade (sheet_of (m.desks desk).first) (m.desks desk).begun (calls_of (m.desks desk).first) ∷ []) (m.desks desk).later

  -- All that happened, the newest first. Of the disks: each desk's lives follow one another by what its disk had. Of the
  -- network: what came to a life's socket and opened there as a vote had been sealed before by one of these stations, with that
  -- seal. All lives are of the match, what happened at a station is what its lives made happen, and there are no other stations.
  pub record IsWoven (hs : List (Happening DeskDisk)) : Type 0 where
    pub disks : (desk : DeskId) → AreDesks desk
    pub network : NothingIsForged m.game m.desks m.boards (start_of m) hs
    pub sheets : (n : ℕ) → All (λ (b : LifeOfBoard). IsOfMatch m.game m.innings (board_sheet b)) (m.boards n)
    pub desks : (desk : DeskId) → filter (is_at_desk desk) hs ≡ life_happens m.innings desk (all_stages (m.desks desk))
    pub boards : (n : ℕ) → filter (is_at_board n) hs ≡ board_happens m.innings n (map board_process (m.boards n))
    pub no_others : (n : ℕ) → board_at (start_of m).boards n ≡ None → m.boards n ≡ []

  -- What happened is a flow, of which the headline holds; no board drops a vote as one by which a desk's file lacks lines, nor
  -- tells so; and while no scorer types, no disk fails, and no process begins or ends, all goes on.
  pub record HasHeadline (hs : List (Happening DeskDisk)) : Type 0 where
    pub flow : IsFlow file_of images_of file_contents m.game m.innings New m.count (start_of m) hs
    pub headline : ProcessHeadline m.game m.innings (start_of m) hs
    pub whole : NoneIsParted hs
    pub tells : NoneTells hs
    pub goes_on : (earlier later : List (Happening DeskDisk)) → hs ≡ later ++ earlier → AllQuiet later
        → GoOn (setting_of file_contents file_of images_of m.game m.innings) m.game (after (start_of m) earlier) later

-- this holds of each match of the program's stations
abbrev pub LivesHaveHeadline : Type 0
LivesHaveHeadline = (m : Match) (hs : List (Happening DeskDisk)) → IsWoven m hs → HasHeadline m hs
