-- A desk of the world: a file of either version, on a disk in memory.
use Rattle.std.specs.Prelude.{◌≡◌, ◌≤◌, ◌+◌, ℕ, length, Result, Ok, Err}
use Rattle.corrections.specs.Book.{Contents}
use Rattle.corrections.specs.declared.refusal.Refusal.{Refusal}
use Rattle.entry_log.specs.Format.{room}
use Rattle.entry_log.specs.MemDisk.{cap_of}
use Rattle.entry_log.specs.declared.mem_disk.MemDisk.{MemDisk}
use Rattle.agree_core.specs.declared.messages.DeskId.{DeskId}
use Rattle.agree_core.specs.Books.{Rules}
use Rattle.agree_core.specs.Desks.{DeskState}
use Rattle.agree_core.specs.FileView.{FileView}
use Rattle.agree_core.specs.Openings.{NotOpened, Opened, Opening}
use Rattle.desk.specs.Answers.{open_cause}
use Rattle.desk.specs.Desk as desk
use Rattle.desk.specs.declared.refusal.OpenRefusal.{OpenRefusal}
use Rattle.headline.specs.declared.version.FileVersion.{FileVersion}
use Rattle.world_desks.specs.declared.world_desk.WorldDesk.{WorldDesk}
use Rattle.world_desks.specs.declared.world_desk.WorldDesk.TheVariants.{Old, New}
use Rattle.headline.specs.Match.{format_of, match_of}
use Rattle.headline.specs.Setting.{Setting}

abbrev pub version_of : WorldDesk → FileVersion
version_of (Old k) = FileVersion.Old
version_of (New k) = FileVersion.New

abbrev pub name_of : WorldDesk → DeskId
name_of (Old k) = desk.desk_of k
name_of (New k) = desk.desk_of k

-- the number of the desk's match
abbrev pub game_of : WorldDesk → ℕ
game_of (Old k) = desk.game_of k
game_of (New k) = desk.game_of k

abbrev pub book_of : WorldDesk → Contents
book_of (Old k) = desk.book_of k
book_of (New k) = desk.book_of k

-- the innings a side of the desk's book
abbrev pub innings_of : WorldDesk → ℕ
innings_of k = (λ (b : Contents). b.innings_a_side) (book_of k)

-- the desk's state, as the definitions of its calls see it
abbrev pub state_of : WorldDesk → DeskState MemDisk
state_of (Old k) = desk.state_of k
state_of (New k) = desk.state_of k

abbrev pub disk_of : WorldDesk → MemDisk
disk_of k = (λ (s : DeskState MemDisk). s.disk) (state_of k)

-- what the desk's disk shows of its file
abbrev pub view_of : WorldDesk → FileView MemDisk
view_of k = (λ (s : Setting MemDisk Refusal). s.view (name_of k) (version_of k)) (match_of (game_of k) (innings_of k))

-- the rules of the desk's book
abbrev pub rules_of : WorldDesk → Rules Refusal
rules_of k = (λ (s : Setting MemDisk Refusal). s.rules) (match_of (game_of k) (innings_of k))

-- the desk has this name, in this match, with a file of this version
pub record IsWorldDeskOf (name : DeskId) (version : FileVersion) (game innings : ℕ) (k : WorldDesk) : Type 0 where
  pub same_name : name_of k ≡ name
  pub same_version : version_of k ≡ version
  pub same_game : game_of k ≡ game
  pub same_innings : innings_of k ≡ innings

-- the desk has the same name, version and match as before, on a disk of the same cap
pub record SameOwner (old new : WorldDesk) : Type 0 where
  pub name : name_of new ≡ name_of old
  pub version : version_of new ≡ version_of old
  pub same_game : game_of new ≡ game_of old
  pub innings : innings_of new ≡ innings_of old
  pub cap : cap_of (disk_of new) ≡ cap_of (disk_of old)

-- the desk's disk has room for a file of one vote more
abbrev pub FitsOneMore : WorldDesk → Type 0
FitsOneMore k = room (format_of (version_of k)) (length ((λ (s : DeskState MemDisk). s.votes) (state_of k)) + 1) ≤ cap_of (disk_of k)

-- the result of opening a file, as the definitions have it
abbrev pub opening : Result WorldDesk (OpenRefusal × MemDisk) → Opening MemDisk
opening (Ok k) = Opened (state_of k)
opening (Err refused) = NotOpened (open_cause refused.0) refused.1
