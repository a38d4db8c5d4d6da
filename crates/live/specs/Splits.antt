-- A board that heard both desks agree on an entry tells it if they agree on another one, whatever their files hold.
use Rattle.std.specs.Prelude.{◌≡◌, ◌≢◌, ℕ, true, List, [], ◌∷◌, ◌++◌, Result}
use Rattle.notation.specs.declared.entry.Entry.{Entry}
use Rattle.notation.specs.Written.{IsEntry}
use Rattle.agree_core.specs.declared.messages.{DeskId.DeskId, Message.Message}
use Rattle.cards.specs.Sheet.{Sheet}
use Rattle.wire.specs.Layout.{Says}
use Rattle.wire.specs.declared.what.What.{What}
use Rattle.board.specs.Rounds.{HeardAgreed}
use Rattle.board.specs.declared.refusal.BoardRefusal.{BoardRefusal}
use Rattle.live.specs.Boards.{BoardTurn, Given, Parted, TurnStep}
use Rattle.station_texts.specs.Notices.{is_stopped}
use Rattle.station_texts.specs.declared.notices.Notice.{Notice}

-- In any turn of a board's process, whoever sent the datagrams: if it heard both desks vote alike for an entry at a place, and
-- they agree on another one there, in any round, it doesn't take the vote of one of them. When that vote comes, the board tells
-- that what stands there is written anew, takes nothing more from then on, and hands that desk's own vote back to it.
abbrev pub SplitsAreTold : Type 0
SplitsAreTold =
    (sheet : Sheet) (game innings place round other : ℕ) (e f : Entry) (k : BoardTurn)
    → HeardAgreed k.memory.rounds place round e → IsEntry f → e ≢ f
    → (d : DeskId) × ((bytes : List ℕ) (out : List Message) (l : BoardTurn)
    → Says game bytes (Message.Vote (record { desk = d; place = place; round = other; entry = f }))
    → ((answer : Result What BoardRefusal) → TurnStep sheet game innings k (Given bytes answer) out l → ⊥)
    × ((back : List ℕ) → TurnStep sheet game innings k (Parted bytes back) out l
    → (l.notices ≡ k.notices ++ Notice.Parted place ∷ []) × (is_stopped l.memory.telling ≡ true)))
