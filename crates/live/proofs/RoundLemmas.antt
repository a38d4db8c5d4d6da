-- The rounds that a board's process remembers, and which desks it has heard to be ahead.
use Rattle.std.proofs.Common.{arith, append_assoc, ◌≡◌, ◌∙◌, ◌++◌, ◌∷◌, [], ℕ, Bool, true, false, List, Option, Some, None, Result, Ok, refl, sym, ap, ap₂, nat_lt}
use Rattle.std.specs.Prelude.{if◌then◌else◌}
use Rattle.notation.specs.declared.entry.Entry.{Entry}
use Rattle.agree_core.specs.declared.{messages.DeskId.DeskId, messages.Message.Message, messages.Vote.Vote, seat.Heard.Heard}
use Rattle.agree_core.specs.Boards.{BoardState}
use Rattle.agree_core.specs.Books.{Rules}
use Rattle.vote_store.specs.Record.{entry_coded}
use Rattle.wire.specs.Layout.{Says, body_in}
use Rattle.wire.specs.Reading.{Reads}
use Rattle.wire.specs.declared.{fault.WireFault.WireFault, what.What.What}
use Rattle.wire.proofs.FaultLemmas.{reads_once}
use Rattle.wire.proofs.MessageLemmas.{place_of, voter_of}
use Rattle.board.specs.declared.{refusal.BoardRefusal.BoardRefusal, witness.Round.Round}
use Rattle.board.specs.Rounds.{recalled, whole_round, with_round}
use Rattle.board.specs.Takes.{Takes}
use Rattle.links.specs.Passed.{Passed, Came, Sent}
use Rattle.links.specs.declared.link.Receivers.TheVariants.{ToOne}
use Rattle.live.specs.Boards.{RecallsNone, desk_ahead, desk_ahead_in, later_after, rounds_after, settles, with_desk}
use Rattle.live.specs.declared.later.Later.{Later}
use Rattle.live.proofs.HiddenLemmas.{entry_of_vote}

-- only one message was read
pub ok_same : (r : Result Message WireFault) (m n : Message) → r ≡ Ok m → r ≡ Ok n → m ≡ n
ok_same r m n e f = grind arith

-- a datagram came, and another one went back
pub two_passed : (log : List Passed) (bytes back : List ℕ) {after : List Passed} → after ≡ (log ++ Came bytes ∷ []) ++ Sent ToOne back ∷ []
    → after ≡ log ++ Came bytes ∷ Sent ToOne back ∷ []
two_passed log bytes back e = grind (arith, e, append_assoc)

module _ {Why : Type 0} (rules : Rules Why) (game : ℕ) (k l : BoardState) (bytes : List ℕ) where
  -- both votes of a round are heard only by a vote
  heard_vote : (answer : Result What BoardRefusal) → Takes rules game k bytes answer l → settles answer ≡ true → (v : Vote) × Says game bytes (Message.Vote v)
  heard_vote (Ok (What.Heard Heard.Agreed)) (Message.Vote v, says, r) e = (v, says)
  heard_vote (Ok (What.Heard Heard.Agreed)) (Message.Ask q, says, r) e = absurd r
  heard_vote (Ok (What.Heard Heard.Differ)) (Message.Vote v, says, r) e = (v, says)
  heard_vote (Ok (What.Heard Heard.Differ)) (Message.Ask q, says, r) e = absurd r
  heard_vote _ t e = absurd (cc)

  module _ (read : Result Message WireFault) (reads : Reads game bytes read) where
    -- the entry of that vote is the one in its bytes
    entry_so : (answer : Result What BoardRefusal) (entry : Option Entry) → ((v : Vote) → read ≡ Ok (Message.Vote v) → entry ≡ Some v.entry)
        → Takes rules game k bytes answer l → settles answer ≡ true → entry ≡ entry_coded (body_in bytes)
    entry_so answer entry is takes e =
        let said = heard_vote answer takes e in
        is said.0 (reads_once game bytes read (Ok (Message.Vote said.0)) reads said.1) ∙ sym (entry_of_vote game bytes said.0 said.1)

    noted_when : (b : Bool) (answer : Result What BoardRefusal) (entry : Option Entry) (rounds : List Round) → settles answer ≡ b
        → ((v : Vote) → read ≡ Ok (Message.Vote v) → entry ≡ Some v.entry) → Takes rules game k bytes answer l
        → (if b then with_round rounds (whole_round k.reader entry) else rounds) ≡ (if b then with_round rounds (whole_round k.reader (entry_coded (body_in bytes))) else rounds)
    noted_when true answer entry rounds e is takes = ap (λ (entry : Option Entry). with_round rounds (whole_round k.reader entry)) (entry_so answer entry is takes e)
    noted_when false answer entry rounds e is takes = refl

    -- what is remembered of a message, as read, is what is remembered of its bytes
    pub rounds_noted : (answer : Result What BoardRefusal) (entry : Option Entry) (rounds : List Round)
        → ((v : Vote) → read ≡ Ok (Message.Vote v) → entry ≡ Some v.entry) → Takes rules game k bytes answer l
        → (if settles answer then with_round rounds (whole_round k.reader entry) else rounds) ≡ rounds_after k rounds bytes answer
    rounds_noted answer entry rounds is takes = noted_when (settles answer) answer entry rounds refl is takes

    ahead_so : (place : ℕ) (desk : Option DeskId) → ((v : Vote) → read ≡ Ok (Message.Vote v) → desk ≡ desk_ahead place v) → (v : Vote) → Says game bytes (Message.Vote v)
        → desk ≡ desk_ahead_in place bytes
    ahead_so place desk is v says =
        is v (reads_once game bytes read (Ok (Message.Vote v)) reads says)
        ∙ ap₂ (λ (p : ℕ) (found : Option DeskId). if nat_lt place p then found else None) (sym (place_of game bytes (Message.Vote v) says)) (sym (voter_of game bytes v says))

    -- who is ahead by a message, as read, is ahead by its bytes
    pub later_noted : (answer : Result What BoardRefusal) (place : ℕ) (desk : Option DeskId) (later : Later)
        → ((v : Vote) → read ≡ Ok (Message.Vote v) → desk ≡ desk_ahead place v) → Takes rules game k bytes answer l
        → later_after later desk answer ≡ later_after later (desk_ahead_in place bytes) answer
    later_noted (Ok (What.Heard Heard.Ahead)) place desk later is (Message.Vote v, says, r) = ap (with_desk later) (ahead_so place desk is v says)
    later_noted (Ok (What.Heard Heard.Ahead)) place desk later is (Message.Ask q, says, r) = absurd r
    later_noted answer place desk later is takes = refl

  -- if no vote goes back by the message, as read, none does by its bytes
  pub unrecalled : (read : Result Message WireFault) → Reads game bytes read → (rounds : List Round) → ((m : Message) → read ≡ Ok m → recalled rounds m ≡ None)
      → RecallsNone game rounds bytes
  unrecalled read reads rounds h m says = h m (reads_once game bytes read (Ok m) reads says)
