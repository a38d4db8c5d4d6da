-- What every call of a board preserves.
use Rattle.std.proofs.Common.{◌≡◌, ℕ, Option, List, arith, length-append}
use Rattle.notation.specs.declared.entry.Entry.{Entry}
use Rattle.agree_core.specs.declared.{messages.DeskId.DeskId, messages.Message.Message, messages.Vote.Vote, position.Position.Position, seat.Heard.Heard}
use Rattle.agree_core.specs.declared.messages.DeskId.TheVariants.{A, B}
use Rattle.agree_core.specs.Agreed.{EqualVotes}
use Rattle.agree_core.specs.Ballots.{AllVotes, Ballot, In, VotesGrow, Within, ballot_at, ballot_of, votes_by}
use Rattle.agree_core.specs.Boards.{BoardAnswer, BoardReceives, BoardState, BoardTicks, fresh_board}
use Rattle.agree_core.specs.Books.{Rules}
use Rattle.agree_core.specs.Desks.{book_heard}
use Rattle.agree_core.specs.Readers.{Listens, noted_of, other}
use Rattle.agree_core.specs.Keeping.{BoardFine, Each, MessageFine, NotedFine}
use Rattle.agree_core.proofs.Both.{both_grow, both_push}
use Rattle.agree_core.proofs.Waiting.{listens_wait}

pub votes_grow : (v w : AllVotes) → VotesGrow v w → (d : DeskId) → Within (votes_by v d) (votes_by w d)
votes_grow v w g A = g.0
votes_grow v w g B = g.1

pub noted_grows : (votes votes' : List Ballot) → Within votes votes' → (at : Position) (x : Option Entry)
    → NotedFine votes at x → NotedFine votes' at x
noted_grows votes votes' g at x h = grind arith

pub board_grows : (v w : AllVotes) → VotesGrow v w → (k : BoardState) → BoardFine v k → BoardFine w k
board_grows v w g k f = record {
  both = both_grow v.a w.a v.b w.b g.0 g.1 0 k.book f.both;
  long = f.long;
  noted = λ d. noted_grows (votes_by v d) (votes_by w d) (votes_grow v w g d) k.reader.position (noted_of k.reader d) (f.noted d);
  waits = f.waits;
}

pub message_grows : (v w : AllVotes) → VotesGrow v w → (m : Message) → MessageFine v m → MessageFine w m
message_grows v w g (Message.Vote x) f = votes_grow v w g x.desk (ballot_of x) f
message_grows v w g (Message.Ask q) f = tt

both_voted : (v : AllVotes) (d : DeskId) (place round : ℕ) (e : Entry) → In (ballot_at place round e) (votes_by v d)
    → In (ballot_at place round e) (votes_by v (other d)) → EqualVotes v place round e
both_voted v d place round e i j = grind arith

-- a board still agrees with the votes after it hears one and its book changes accordingly
listens_keep : (v : AllVotes) (k l : BoardState) (x : Vote) (h : Heard) → BoardFine v k → In (ballot_of x) (votes_by v x.desk)
    → Listens k.reader x h l.reader → l.book ≡ book_heard h k.book x.entry → BoardFine v l
listens_keep v k l x h f i c e = grind (arith, listens_wait, both_push, both_voted, length-append, f.noted)

pub fresh_fine : (v : AllVotes) → BoardFine v fresh_board
fresh_fine v = grind arith

pub board_receives_keeps : {Why : Type 0} (rules : Rules Why) (v : AllVotes) (k l : BoardState) (m : Message) (told : BoardAnswer)
    → BoardFine v k → MessageFine v m → BoardReceives rules k m told l → BoardFine v l
board_receives_keeps rules v k l m told f i p = grind (arith, listens_keep)

-- a board hands out only asks
pub board_asks : (v : AllVotes) (k : BoardState) (out : List Message) → BoardTicks k out → Each (MessageFine v) out
board_asks v k out h = grind arith
