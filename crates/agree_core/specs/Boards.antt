-- What a board does at each call, by cases of its answer.
use Rattle.std.specs.Prelude.{◌≡◌, ◌≢◌, ◌⊎◌, ℕ, None, List, [], ◌∷◌}
use Rattle.notation.specs.declared.entry.Entry.{Entry}
use Rattle.agree_core.specs.declared.{messages.Asker.Asker, messages.Message.Message, seat.Heard.Heard}
use Rattle.agree_core.specs.Positions.{InRange, IsFull, first}
use Rattle.agree_core.specs.Readers.{ReaderState, Listens, reading}
use Rattle.agree_core.specs.Books.{Rules}
use Rattle.agree_core.specs.Desks.{ask_for, book_heard}

pub record BoardState : Type 0 where
  pub reader : ReaderState
  pub book : List Entry

abbrev pub fresh_board : BoardState
fresh_board = record { reader = reading first; book = [] }

pub data BoardAnswer : Type 0 where
  Told : Heard → BoardAnswer
  Asked : BoardAnswer
  BadVotes : ℕ → BoardAnswer

-- a board receives this message, answers, and becomes the second board; it doesn't take equal votes of both desks for an
-- entry that the book's rules refuse, and it ignores an ask
abbrev pub BoardReceives :
    {Why : Type 0} → Rules Why → BoardState → Message → BoardAnswer → BoardState → Type 0
BoardReceives rules k (Message.Vote v) (Told h) l =
    Listens k.reader v h l.reader × (h ≡ Heard.Agreed → rules k.book v.entry ≡ None)
    × (l.book ≡ book_heard h k.book v.entry)
BoardReceives rules k (Message.Vote v) Asked l = ⊥
BoardReceives rules k (Message.Vote v) (BadVotes place) l =
    ((reader : ReaderState) × Listens k.reader v Heard.Agreed reader)
    × (rules k.book v.entry ≢ None) × (place ≡ k.reader.position.place) × (l ≡ k)
BoardReceives rules k (Message.Ask q) Asked l = l ≡ k
BoardReceives rules k (Message.Ask q) (Told h) l = ⊥
BoardReceives rules k (Message.Ask q) (BadVotes place) l = ⊥

-- at a tick a board asks for the votes of its position, unless that is full
abbrev pub BoardTicks : BoardState → List Message → Type 0
BoardTicks k out =
    (InRange k.reader.position × (out ≡ ask_for Asker.Board k.reader.position ∷ []))
    ⊎ (IsFull k.reader.position × (out ≡ []))
