-- What happens in a match of the program's stations is a flow.
use Rattle.std.proofs.Common.{◌≡◌, ◌∙◌, ℕ, None, List, [], ap, refl, subst}
use Rattle.std.specs.Prelude.{map}
use Rattle.std.specs.List.{filter}
use Rattle.agree_core.specs.declared.messages.DeskId.{DeskId}
use Rattle.agree_core.specs.declared.messages.DeskId.TheVariants.{A, B}
use Rattle.agree_core.specs.Desks.{DeskState}
use Rattle.headline.specs.Configurations.{Node, Running, board_at, node}
use Rattle.headline.specs.declared.version.FileVersion.TheVariants.{New}
use Rattle.desk_command.specs.declared.desk_disk.DeskDisk.{DeskDisk}
use Rattle.desk_command.specs.Disks.{faults_of, file_of, images_of}
use Rattle.processes.specs.Happenings.{Happening}
use Rattle.processes.specs.Laws.{IsFlow}
use Rattle.processes.specs.Lives.{BeginsFirst, IsLife, board_happens}
use Rattle.processes.specs.Weaving as weaving
use Rattle.processes.specs.Weaving.{is_at_board}
use Rattle.processes.proofs.Files.{empty_files}
use Rattle.processes.proofs.GoingOn.{processes_go_on}
use Rattle.processes.proofs.NoneTells.{woven_lives_tell_none}
use Rattle.processes.proofs.WeavingLaws.{woven_lives_flow, woven_lives_have_headline}
use Rattle.processes.proofs.WholeLives.{woven_lives_part_none}
use Rattle.sheet_stations.specs.Lives.{LifeOfBoard, all_stages, board_process}
use Rattle.sheet_stations.specs.Matches.{AreDesks, IsWoven, LivesHaveHeadline, Match, file_contents, start_of}
use Rattle.sheet_stations.proofs.Authentic.{lives_took}
use Rattle.sheet_stations.proofs.Lives.{followed, lived_boards, lived_first, views}
use Rattle.sheet_stations.proofs.Network.{no_seals}

abbrev first_node : DeskState DeskDisk → Node DeskDisk
first_node k = record { version = New; process = Running k; due = None }

module _ (m : Match) where
  at_start : (desk : DeskId) → node (start_of m) desk ≡ first_node (m.desks desk).begun
  at_start A = refl
  at_start B = refl

  desk_lives : (desk : DeskId) → AreDesks m desk
      → IsLife (views desk m.game) file_of faults_of desk m.game m.innings (node (start_of m) desk) (all_stages (m.desks desk))
      × BeginsFirst (views desk m.game New) file_of m.innings desk (m.desks desk).begun
  desk_lives desk are =
      let d = m.desks desk in
      let x = node (start_of m) desk in
      let new : x.version ≡ New = ap (λ (n : Node DeskDisk). n.version) (at_start desk) in
      let first = lived_first desk m.game m.innings d.first are.first x new d.begun (ap (λ (n : Node DeskDisk). n.process) (at_start desk)) are.opens in
      ((followed desk m.game m.innings x _ d.later new first.0 are.follow).0, first.1)

  module _ (hs : List (Happening DeskDisk)) (w : IsWoven m hs) where
    board_none : (n : ℕ) → board_at (start_of m).boards n ≡ None → filter (is_at_board n) hs ≡ []
    board_none n none = w.boards n ∙ ap (λ (bs : List LifeOfBoard). board_happens {Disk = DeskDisk} m.innings n (map board_process bs)) (w.no_others n none)

    woven : weaving.IsWoven file_of images_of faults_of no_seals file_contents m.game m.innings (start_of m) hs
    woven = record {
      order = lives_took m hs w;
      desks = λ desk. (all_stages (m.desks desk), (desk_lives desk (w.disks desk)).0, w.desks desk);
      boards = λ n. (map board_process (m.boards n), lived_boards m.game m.innings (m.boards n) (w.sheets n), w.boards n);
      no_others = board_none;
    }

pub lives_have_headline : LivesHaveHeadline
lives_have_headline m hs w =
    let none = empty_files m.game in
    let begin : weaving.BothBegin file_of images_of faults_of (file_contents New) m.game m.innings (m.desks A).begun (m.desks B).begun =
    ((desk_lives m A (w.disks A)).1, (desk_lives m B (w.disks B)).1) in
    let is = woven m hs w in
    let a = (m.desks A).begun in
    let b = (m.desks B).begun in
    let flow = woven_lives_flow file_of images_of faults_of no_seals file_contents m.game m.innings New m.count a b hs none begin is in
    record {
      flow = flow;
      headline = woven_lives_have_headline file_of images_of faults_of no_seals file_contents m.game m.innings New m.count a b hs none begin is;
      whole = woven_lives_part_none file_of images_of faults_of no_seals file_contents m.game m.innings New m.count a b hs none begin is;
      tells = woven_lives_tell_none file_of images_of faults_of no_seals file_contents m.game m.innings New m.count a b hs none begin is;
      goes_on = λ earlier later whole quiet.
          processes_go_on file_of images_of file_contents m.game m.innings New m.count (start_of m) earlier later
          (subst (λ (gs : List (Happening DeskDisk)). IsFlow file_of images_of file_contents m.game m.innings New m.count (start_of m) gs) whole flow) quiet;
    }
