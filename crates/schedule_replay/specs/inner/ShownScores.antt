-- Scores that stations have shown, each kept once.
use Rattle.std.specs.Prelude.{◌≡◌, ◌⊎◌, ◌↔◌, ◌≤◌, ◌+◌, ◌*◌, ℕ, zero, suc, Bool, true, false, Some, None, Option, List}
use Rattle.std.specs.Prelude.{length, get_or, option_map, slice_get, Contains}
use Rattle.corrections.specs.Legal.{IsScoreOf}
use Rattle.match_laws.specs.declared.standing.Standing.{Standing}
use Rattle.notation.specs.declared.entry.{Entry.Entry, TheConstants.PLACES}
use Rattle.agree_core.specs.declared.messages.DeskId.TheVariants.{A, B}
use Rattle.agree_core.specs.Boards.{BoardState}
use Rattle.agree_core.specs.Desks.{DeskState}
use Rattle.headline.specs.declared.event.Station.{Station}
use Rattle.schedule_replay.specs.declared.{shown_scores.ShownScores.ShownScores, world.World.World}
use Rattle.world_desks.specs.declared.world_desk.WorldDesk.{WorldDesk}
use Rattle.schedule_replay.specs.CodeWorlds.{HasConfiguration, MatchBoard, board_innings, board_state, code_site}
use Rattle.headline.specs.Headline.{ShowsScore}
use Rattle.schedule_replay.specs.Replays.{StandOnce}
use Rattle.world_desks.specs.WorldDesks.{innings_of, state_of}
use Rattle.headline.specs.Configurations.{Configuration}
use Rattle.entry_log.specs.declared.mem_disk.MemDisk.{MemDisk}

-- desks have the numbers 0 and 1, boards the numbers from 2
abbrev pub station_number : Station → ℕ
station_number (Station.Desk A) = 0
station_number (Station.Desk B) = 1
station_number (Station.Board n) = n + 1

-- boards are numbered from 1, and there are at most four
abbrev pub IsStation : Station → Type 0
IsStation (Station.Desk d) = Unit {0}
IsStation (Station.Board n) = (1 ≤ n) × (n ≤ 4)

-- the index of the mark of a station and a book's length: two desks and four boards have one mark for each length, from 0
abbrev pub mark_of : Station → ℕ → ℕ
mark_of t n = station_number t * (PLACES + 1) + n

abbrev pub most_marks : ℕ
most_marks = 6 * (PLACES + 1)

abbrev pub IsMarked : List Bool → Station → ℕ → Type 0
IsMarked marks t n = get_or marks (mark_of t n) false ≡ true

-- a station and a length are marked exactly if they are among the scores, and then once
pub record IsKept (shown : ShownScores) : Type 0 where
  pub long : length shown.marks.items ≡ most_marks
  pub marked : (t : Station) (n : ℕ) → IsStation t → n ≤ PLACES → IsMarked shown.marks.items t n
      → (score : Standing) × Contains shown.seen.items (t, n, score)
  pub known : (i : ℕ) (t : Station) (n : ℕ) (score : Standing)
      → slice_get shown.seen.items i ≡ Some (t, n, score) → IsMarked shown.marks.items t n
  pub once : StandOnce shown.seen.items

-- exactly these lengths and scores of one station are added
abbrev pub Adds :
    Station → (ℕ → Standing → Type 0) → List (Station × ℕ × Standing) → List (Station × ℕ × Standing) → Type 0
Adds u P old new =
    (t : Station) (n : ℕ) (score : Standing)
    → Contains new (t, n, score) ↔ (Contains old (t, n, score) ⊎ ((t ≡ u) × P n score))

-- the innings a side and the book of a running desk, and of a board
abbrev pub desk_book : Option WorldDesk → Option (ℕ × List Entry)
desk_book desk = option_map (λ (k : WorldDesk). (innings_of k, (λ (s : DeskState _). s.book) (state_of k))) desk

abbrev pub board_book : Option MatchBoard → Option (ℕ × List Entry)
board_book board =
    option_map (λ (k : MatchBoard). (board_innings k, (λ (s : BoardState). s.book) (board_state k))) board

-- the same for any station of a world, unless it is down
abbrev pub code_book : World → Station → Option (ℕ × List Entry)
code_book world (Station.Desk d) = desk_book (code_site world d).desk
code_book world (Station.Board zero) = None
code_book world (Station.Board (suc i)) = board_book (slice_get world.boards.items i)

-- what such a book shows: its length and its score
abbrev pub BookShows : Option (ℕ × List Entry) → ℕ → Standing → Type 0
BookShows None n score = ⊥
BookShows (Some b) n score = (n ≡ length b.1) × IsScoreOf score b.0 b.1

abbrev pub DeskShows : Option WorldDesk → ℕ → Standing → Type 0
DeskShows desk n score = BookShows (desk_book desk) n score

abbrev pub CodeShows : World → Station → ℕ → Standing → Type 0
CodeShows world t n score = BookShows (code_book world t) n score

-- the book has a score, if there is one
abbrev pub BookHasScore : Option (ℕ × List Entry) → Type 0
BookHasScore None = Unit {0}
BookHasScore (Some b) = (score : Standing) × IsScoreOf score b.0 b.1

abbrev pub DeskHasScore : Option WorldDesk → Type 0
DeskHasScore desk = BookHasScore (desk_book desk)

-- each station of a world that isn't down has a score
abbrev pub HaveScores : World → Type 0
HaveScores world = (t : Station) → BookHasScore (code_book world t)

-- The world has this configuration, with at most four boards; and if the world shows a station and length that are among these
-- scores, it shows that score.
pub record IsNotable
    (world : World) (seen : List (Station × ℕ × Standing)) (w : Configuration MemDisk) : Type 0 where
  pub has_configuration : HasConfiguration world w
  pub few_boards : length w.boards ≤ 4
  pub one_score : (t : Station) (n : ℕ) (score other : Standing) → Contains seen (t, n, other)
      → ShowsScore world.innings_a_side w t n score → other ≡ score

-- exactly what the world shows is added
abbrev pub Notes : World → List (Station × ℕ × Standing) → List (Station × ℕ × Standing) → Type 0
Notes world old new =
    (w : Configuration MemDisk) → HasConfiguration world w → (t : Station) (n : ℕ) (score : Standing)
    → Contains new (t, n, score) ↔ (Contains old (t, n, score) ⊎ ShowsScore world.innings_a_side w t n score)
