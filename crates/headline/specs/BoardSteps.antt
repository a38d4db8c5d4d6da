-- What an event does at the board that it names, by cases of the event.
use Rattle.std.specs.Prelude.{◌≡◌, List, [], length}
use Rattle.agree_core.specs.declared.messages.Message.{Message}
use Rattle.agree_core.specs.Boards.{BoardState, BoardAnswer, BoardReceives, BoardTicks, fresh_board}
use Rattle.headline.specs.declared.event.Event.{Event}
use Rattle.headline.specs.Setting.{Setting}
use Rattle.headline.specs.Answers.{Answer, Ticked, Done, board_told}
use Rattle.headline.specs.Given.{IsGiven}

-- what an event does at the board that it names: the messages handed out, and the answer
abbrev pub AtBoard :
    {Disk Why : Type 0} → Setting Disk Why → List Message → Event
    → BoardState → Answer Why → BoardState → List Message → Type 0
-- the board is given the message of this number, or an ask
AtBoard s sent (Event.Give n t) k answer l out =
    (m : Message) × (received : BoardAnswer) × IsGiven sent n m
    × BoardReceives s.rules k m received l × (answer ≡ board_told received) × (out ≡ [])
-- the board asks for what it lacks, and stays as it was
AtBoard s sent (Event.Tick t) k answer l out =
    BoardTicks k out × (answer ≡ Ticked (length out)) × (l ≡ k)
-- the board begins empty
AtBoard s sent (Event.Wipe n) k answer l out = (l ≡ fresh_board) × (answer ≡ Done) × (out ≡ [])
-- no other event is for a board
AtBoard s sent _ k answer l out = ⊥
