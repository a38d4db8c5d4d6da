-- A board of the world, as the definitions of a run see it.
use Rattle.std.specs.Prelude.{◌≡◌, ℕ, List, map, All, ◌++◌, Some}
use Rattle.corrections.specs.declared.refusal.Refusal.{Refusal}
use Rattle.agree_core.specs.declared.messages.Message.{Message}
use Rattle.wire.specs.declared.datagram.Datagram.{Datagram}
use Rattle.headline.specs.declared.event.Event.{Event}
use Rattle.schedule_replay.specs.declared.seen.Seen.{Seen}
use Rattle.headline.specs.Configurations.{fresh_boards}
use Rattle.headline.specs.Answers.{Answer}
use Rattle.headline.specs.BoardSteps.{AtBoard}
use Rattle.headline.specs.Match.{match_of}
use Rattle.schedule_replay.specs.Answers.{AreBytesOf, answer_of}
use Rattle.schedule_replay.specs.CodeWorlds.{IsBoardOf, MatchBoard, board_game, board_innings, board_state}

-- the new board is of the old one's match
abbrev pub SameBoard : MatchBoard → MatchBoard → Type 0
SameBoard old new = IsBoardOf (board_game old) (board_innings old) new

-- this many boards of the match, each without an entry
pub record AreFresh (game innings count : ℕ) (boards : List MatchBoard) : Type 0 where
  pub states : map board_state boards ≡ fresh_boards count
  pub of_match : All (IsBoardOf game innings) boards

-- An event at a board is a step of the definitions: the outcome shows the answer, and the messages handed out are added to
-- those sent.
abbrev pub BoardSteps : Event → MatchBoard → List Datagram → Seen → MatchBoard → List Datagram → Type 0
BoardSteps event old sent seen new sent' =
    (messages : List Message) → AreBytesOf (board_game old) sent messages
    → (out : List Message) × (answer : Answer Refusal) × (answer_of seen ≡ Some answer)
    × AtBoard (match_of (board_game old) (board_innings old)) messages event (board_state old) answer (board_state new) out
    × AreBytesOf (board_game old) sent' (messages ++ out)
