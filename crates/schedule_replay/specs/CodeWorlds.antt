-- The configuration of a world.
use Rattle.std.specs.Prelude.{◌≡◌, ℕ, length, map, All, Some, None, Result, Ok, Err}
use Rattle.corrections.specs.Book.{Contents}
use Rattle.corrections.specs.declared.{checked_book.CheckedBook.CheckedBook, refusal.Refusal.Refusal}
use Rattle.corrections.specs.contracts.checked_book.CheckedBookBookOf.TheImpl as book_impl
use Rattle.entry_log.specs.declared.mem_disk.MemDisk.{MemDisk}
use Rattle.agree_core.specs.declared.messages.DeskId.{DeskId}
use Rattle.agree_core.specs.declared.messages.DeskId.TheVariants.{A, B}
use Rattle.agree_core.specs.Boards.{BoardState}
use Rattle.board.specs.declared.{board.Board.Board, refusal.BoardRefusal.BoardRefusal}
use Rattle.board.specs.Board as board
use Rattle.wire.specs.declared.what.What.{What}
use Rattle.headline.specs.declared.{event.Event.Event, version.FileVersion.FileVersion}
use Rattle.schedule_replay.specs.declared.{seen.Seen.Seen, seen.WorldRefusal.WorldRefusal, site.Site.Site, world.World.World}
use Rattle.headline.specs.Configurations.{Configuration, node}
use Rattle.headline.specs.Answers.{Answer}
use Rattle.headline.specs.Steps.{Step}
use Rattle.headline.specs.Runs.{Begins}
use Rattle.schedule_replay.specs.Refusals.{RefusesEvent, refusal_of}
use Rattle.headline.specs.Match.{match_of}
use Rattle.schedule_replay.specs.Answers.{AreBytesOf, answer_of, given_seen}
use Rattle.schedule_replay.specs.Plans.{CountsDown, LeavesPlan}
use Rattle.schedule_replay.specs.inner.Sites.{HasNode}

abbrev pub code_site : World → DeskId → Site
code_site code A = code.a
code_site code B = code.b

-- a board of the match
abbrev pub MatchBoard : Type 0
MatchBoard = Board CheckedBook book_impl.ghosts

abbrev pub board_state : MatchBoard → BoardState
board_state k = board.state_of (λ (b : Contents). b.entries) k

-- the number of the board's match, and the innings a side of its book
abbrev pub board_game : MatchBoard → ℕ
board_game k = board.game_of k

abbrev pub board_innings : MatchBoard → ℕ
board_innings k = (λ (b : Contents). b.innings_a_side) (board.book_of k)

-- the outcome shown by a board's answer
abbrev pub board_seen : Result What BoardRefusal → Seen
board_seen (Ok what) = given_seen what None
board_seen (Err why) = Seen.BadVotes

pub record IsBoardOf (game innings : ℕ) (k : MatchBoard) : Type 0 where
  pub same_game : board_game k ≡ game
  pub same_innings : board_innings k ≡ innings

-- the site belongs to this desk in the match
pub record IsSiteOf (name : DeskId) (game innings : ℕ) (site : Site) : Type 0 where
  pub same_name : site.name ≡ name
  pub same_game : site.game ≡ game
  pub same_innings : site.innings_a_side ≡ innings

-- the world has this configuration
pub record HasConfiguration (code : World) (w : Configuration MemDisk) : Type 0 where
  pub sites : (d : DeskId) → HasNode (code_site code d) (node w d)
  pub named : (d : DeskId) → IsSiteOf d code.game code.innings_a_side (code_site code d)
  pub boards_are : All (IsBoardOf code.game code.innings_a_side) code.boards.items
  pub board_states : w.boards ≡ map board_state code.boards.items
  pub bytes : AreBytesOf code.game code.sent.items w.sent

-- the new world is of the same match as the old one
pub record KeepsMatch (old new : World) : Type 0 where
  pub same_game : new.game ≡ old.game
  pub same_innings : new.innings_a_side ≡ old.innings_a_side

-- the version of desk A's file, which both desks' files have at the start of a match
abbrev pub match_version : World → FileVersion
match_version world = world.a.version

-- how many boards the world has
abbrev pub boards_of : World → ℕ
boards_of world = length world.boards.items

-- the world is at the start of its match
abbrev pub IsNew : World → Type 0
IsNew world =
    (w : Configuration MemDisk) × HasConfiguration world w
    × Begins (match_of world.game world.innings_a_side) (match_version world) (boards_of world) w

-- the world is at the start of this match, with files of this version and this many boards
pub record BeginsWorld (game innings : ℕ) (version : FileVersion) (boards : ℕ) (world : World) : Type 0 where
  pub is_new : IsNew world
  pub same_game : world.game ≡ game
  pub same_innings : world.innings_a_side ≡ innings
  pub same_version : match_version world ≡ version
  pub same_boards : boards_of world ≡ boards

-- The event is taken: it is a step of the definitions, whose answer the outcome shows. A fault that it asks for is planned, no
-- fault is planned after a kill or a power loss, and a fault due before is counted down.
abbrev pub StepsTo : Event → World → Seen → World → Type 0
StepsTo event old seen new =
    (w : Configuration MemDisk) → HasConfiguration old w
    → (refusal_of w event ≡ None)
    × ((answer : Answer Refusal) × (after : Configuration MemDisk) × (answer_of seen ≡ Some answer)
    × Step (match_of old.game old.innings_a_side) w event answer after × HasConfiguration new after
    × LeavesPlan event after × CountsDown event w after)

-- the event isn't taken
abbrev pub RefusesTo : Event → World → WorldRefusal → World → Type 0
RefusesTo event old why new =
    (w : Configuration MemDisk) → HasConfiguration old w
    → (v : Configuration MemDisk) × RefusesEvent (match_of old.game old.innings_a_side) w event why v
    × HasConfiguration new v
