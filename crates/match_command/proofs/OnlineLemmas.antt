-- What passes between the stations, and what a board makes of it.
use Rattle.std.proofs.Common.{◌≡◌, ◌⊎◌, ℕ, ◌+◌, None, Some, List, [], ◌∷◌, ◌++◌, length, map, refl, sym, ap, arith, append-nil, append_assoc, Result, Ok}
use Rattle.std.specs.Prelude.{slice_get, take}
use Rattle.std.specs.List.{All}
use Rattle.std.proofs.lemmas.Grind.{length_at_push, take_at_read}
use Rattle.std.proofs.lemmas.List.{length-take, take-append-le}
use Rattle.std.proofs.lemmas.List.Elements.{All-append, All-cons, All-contains, All-map, All-nil, All-push}
use Rattle.std.proofs.lemmas.Option.{get_or_from_slice_get, slice_get_past, slice_get_within}
use Rattle.notation.specs.declared.entry.Entry.{Entry}
use Rattle.corrections.proofs.LegalLemmas.{slice_get-append_left}
use Rattle.agree_core.specs.declared.{messages.Message.Message, messages.Vote.Vote as AVote, seat.Heard.Heard}
use Rattle.agree_core.specs.declared.messages.Message.TheVariants.{Vote}
use Rattle.agree_core.specs.Boards as boards
use Rattle.agree_core.specs.Boards.{BoardState}
use Rattle.agree_core.specs.Books.{Rules}
use Rattle.agree_core.specs.Desks.{book_heard}
use Rattle.agree_core.specs.Readers.{Listens}
use Rattle.wire.specs.declared.what.What.{What}
use Rattle.wire.specs.Layout.{IsMessage, Says, written}
use Rattle.wire.proofs.MessageLemmas.{says_once}
use Rattle.board.specs.declared.{refusal.BoardRefusal.BoardRefusal, board.Board.Board}
use Rattle.board.specs.Board.{game_of, state_of}
use Rattle.board.specs.Takes.{Takes}
use Rattle.live.specs.Boards.{Asks}
use Rattle.links.specs.Passed.{Passed, Came, Sent, sends}
use Rattle.links.specs.declared.link.Receivers.{Receivers}
use Rattle.links.specs.declared.link.Receivers.TheVariants.{ToAll}
use Rattle.match_command.specs.MatchRun.{GivesOnlySent}
use Rattle.match_command.specs.inner.Online.{Follows, IsOnline, IsSaid, SpeaksOf, StaysOnline}

gave_before : (xs ys : List Passed) → GivesOnlySent (xs ++ ys) → GivesOnlySent xs
gave_before xs ys g before after bytes e = g before (after ++ ys) bytes (rw e (append_assoc before (Came bytes ∷ after) ys))

-- a longer list has the same item at each place of the shorter one
slice_get-more : (xs ys : List Entry) (n : ℕ) → (slice_get (xs ++ ys) n ≡ slice_get xs n) ⊎ (slice_get xs n ≡ None)
slice_get-more xs ys n = grind (arith, slice_get_past xs n, slice_get-append_left xs ys n)

take-next : (entries : List Entry) (n : ℕ) (e : Entry) → slice_get entries n ≡ Some e → take (n + 1) entries ≡ take n entries ++ e ∷ []
take-next entries n e s = grind (arith, take_at_read entries n e, get_or_from_slice_get entries n e e s, slice_get_within entries n e s)

board_hears : (entries : List Entry) (k l : BoardState) (v : AVote) (h : Heard) → SpeaksOf entries (Vote v) → Follows entries k → Listens k.reader v h l.reader → l.book ≡ book_heard h k.book v.entry
    → Follows entries l
board_hears entries k l v h s f r e = grind (arith, take-next entries (length k.book) v.entry, length_at_push {X = Entry})

board_takes : {Why : Type 0} (entries : List Entry) (rules : Rules Why) (game : ℕ) (k l : BoardState) (bytes : List ℕ) (answer : Result What BoardRefusal) (m : Message) →
    Says game bytes m → SpeaksOf entries m → Follows entries k → Takes rules game k bytes answer l → Follows entries l
board_takes entries rules game k l bytes (Ok (What.Heard h)) m y s f (Vote v, says, r) =
    board_hears entries k l v h (rw (says_once game bytes m (Vote v) y says) at s) f r.0 r.2
board_takes entries rules game k l bytes answer m y s f t = grind arith

module _ (game : ℕ) (start : List Passed) where
  -- the stations stay online with one entry more
  pub more : (entries : List Entry) (e : Entry) (log : List Passed) (k : BoardState) → IsOnline game start entries log k → IsOnline game start (entries ++ e ∷ []) log k
  more entries e log k o = record {
    passed = o.passed;
    since = o.since;
    said = λ i d lt. grind (arith, o.said i d lt, slice_get-more entries (e ∷ []));
    follows = λ g.
        let f = o.follows g in
        grind (arith, f, slice_get-more entries (e ∷ []), take-append-le (length k.book) entries (e ∷ []), length-take (length k.book) entries, ap length f.book);
  }

  -- the stations stay online after these sent messages
  pub says_more : (entries : List Entry) (xs log new : List Passed) (k : BoardState) → All (IsSaid game entries) xs → new ≡ log ++ xs → IsOnline game start entries log k
      → IsOnline game start entries new k
  says_more entries xs log new k said is o = record {
    passed = o.passed ++ xs;
    since = rw (is, o.since) (append_assoc start o.passed xs);
    said = All-append (IsSaid game entries) o.passed xs o.said said;
    follows = λ g. o.follows (gave_before o.passed xs g);
  }

  -- a datagram came to the board
  pub came_to_board : {Why : Type 0} (rules : Rules Why) (entries : List Entry) (log new : List Passed) (bytes : List ℕ) (k l : BoardState) (answer : Result What BoardRefusal) →
      new ≡ log ++ Came bytes ∷ [] → Takes rules game k bytes answer l → IsOnline game start entries log k → IsOnline game start entries new l
  came_to_board rules entries log new bytes k l answer is t o = record {
    passed = o.passed ++ Came bytes ∷ [];
    since = rw (is, o.since) (append_assoc start o.passed (Came bytes ∷ []));
    said = All-push (IsSaid game entries) o.passed (Came bytes) o.said tt;
    follows = λ g.
        let before = g o.passed [] bytes refl in
        let sent = All-contains (IsSaid game entries) o.passed (Sent before.0 bytes) o.said before.1 in
        board_takes entries rules game k l bytes answer sent.0 sent.1 sent.2 (o.follows (gave_before o.passed (Came bytes ∷ []) g)) t;
  }

-- these messages are sent
pub out_said : (to : Receivers) (game : ℕ) (entries : List Entry) (out : List Message) → All IsMessage out → All (SpeaksOf entries) out → All (IsSaid game entries) (sends to game out)
out_said to game entries out fine speak =
    All-map (IsSaid game entries) (Sent to) (map (written game) out) (All-map (λ bs. IsSaid game entries (Sent to bs)) (written game) out (λ k d lt. (_, (fine k d lt, refl), speak k d lt)))

-- a datagram came to a desk
pub came_to_desk : (game : ℕ) (entries : List Entry) (log new : List Passed) (bytes : List ℕ) → new ≡ log ++ Came bytes ∷ [] → StaysOnline game entries log new
came_to_desk game entries log new bytes is start k o =
    says_more game start entries (Came bytes ∷ []) log new k (All-push (IsSaid game entries) [] (Came bytes) (All-nil (IsSaid game entries)) tt) is o

-- a board has asked
pub asked_online : {B : Type 0} {g : _} (content : B → List Entry) (board : Board B g) (start : List Passed) (entries : List Entry) (log new : List Passed) → Asks content board log new →
    IsOnline (game_of board) start entries log (state_of content board) → IsOnline (game_of board) start entries new (state_of content board)
asked_online content board start entries log new asks o =
    let speak : All (SpeaksOf entries) asks.out = grind (arith, asks.step, All-cons (SpeaksOf entries), All-nil (SpeaksOf entries)) in
    says_more (game_of board) start entries _ log new (state_of content board) (out_said ToAll (game_of board) entries asks.out asks.fine speak) asks.passed o

-- nothing has passed yet
pub fresh_online : (game : ℕ) (log : List Passed) (k : BoardState) → k ≡ boards.fresh_board → IsOnline game log [] log k
fresh_online game log k e =
    rw e (record { passed = []; since = sym (append-nil log); said = All-nil (IsSaid game []); follows = λ g. record { book = refl; position = refl; a = tt; b = tt } })
