-- Happenings that are like one event of a run: they bring, find and begin the same.
use Rattle.std.proofs.Common.{Ok, ◌≡◌, ◌≢◌, ◌↔◌, ℕ, Some, List, ◌∷◌, length, refl, sym, ap, ◌∙◌, subst, inl, inr}
use Rattle.std.specs.Prelude.{slice_get}
use Rattle.notation.specs.declared.entry.Entry.{Entry}
use Rattle.corrections.specs.declared.refusal.Refusal.{Refusal}
use Rattle.cards.specs.Sheet.{Sheet}
use Rattle.agree_core.specs.declared.{messages.DeskId.DeskId, messages.Message.Message, seat.Heard.Heard, seat.Settled.Settled}
use Rattle.agree_core.specs.Ballots.{Ballot, vote_of}
use Rattle.agree_core.specs.Boards.{BoardState}
use Rattle.agree_core.specs.Desks.{DeskState}
use Rattle.agree_core.specs.Openings.{Opened}
use Rattle.wire.specs.Layout.{Says}
use Rattle.wire.specs.declared.what.What.{What}
use Rattle.wire.proofs.MessageLemmas.{says_once}
use Rattle.headline.specs.declared.event.{Event.Event, Station.Station}
use Rattle.headline.specs.Answers as answers
use Rattle.headline.specs.Answers.{Answer}
use Rattle.headline.specs.Configurations.{Down, Configuration, node, process_disk}
use Rattle.headline.specs.Given.{IsGiven}
use Rattle.headline.specs.Noted as noted
use Rattle.headline.specs.Noted.{IsVoteAnswer, beginning_of}
use Rattle.headline.specs.Setting.{Setting}
use Rattle.headline.proofs.Given.{given_there, given_vote}
use Rattle.live.specs.Boards as boards
use Rattle.live.specs.Desks as desks
use Rattle.live.specs.Sights.{Sight}
use Rattle.station_texts.specs.declared.said.Said.{Said}
use Rattle.processes.specs.Happenings.{BoardBegun, BoardCalled, DeskBegun, DeskCalled, Happening}
use Rattle.processes.specs.Noted.{BeginsAgain, Brings, IsFound, SayVote}

desk_in : (d c : DeskId) → Station.Desk d ≡ Station.Desk c → d ≡ c
desk_in d c q = cc

-- a pen and a message given begin no station, an opening and a wiping just one
pen_begins : (d : DeskId) (e : Entry) (t : Station) → Event.Pen d e ≡ beginning_of t → ⊥
pen_begins d e (Station.Desk c) q = cc (q)
pen_begins d e (Station.Board n) q = cc (q)

give_begins : (i : ℕ) (u t : Station) → Event.Give i u ≡ beginning_of t → ⊥
give_begins i u (Station.Desk c) q = cc (q)
give_begins i u (Station.Board n) q = cc (q)

open_begins : (d : DeskId) (t : Station) → Event.Open d ≡ beginning_of t → t ≡ Station.Desk d
open_begins d (Station.Desk c) q = cc (q)
open_begins d (Station.Board n) q = absurd (cc (q))

wipe_begins : (n : ℕ) (t : Station) → Event.Wipe n ≡ beginning_of t → t ≡ Station.Board n
wipe_begins n (Station.Board i) q = cc (q)
wipe_begins n (Station.Desk c) q = absurd (cc (q))

module _ {Disk : Type 0} (s : Setting Disk Refusal) (game : ℕ) (v : Configuration Disk) where
  abbrev Found : Event → Answer Refusal → DeskId → Ballot → Type 0
  Found event answer c b = noted.IsFound s v (record { event = event; answer = answer; after = v }) c b

  -- the event, with this answer, is like the happening
  pub record Like (what : Happening Disk) (event : Event) (answer : Answer Refusal) : Type 0 where
    pub brings : (t : Station) (c : DeskId) (b : Ballot) → (noted.Brings v event t c b × IsVoteAnswer answer) ↔ Brings game what t c b
    pub finds : (c : DeskId) (b : Ballot) → Found event answer c b ↔ IsFound what c b
    pub begins : (t : Station) → (event ≡ beginning_of t) ↔ BeginsAgain what t

  -- a pen that is taken
  pub penned : (d : DeskId) (sheet : Sheet) (line : List ℕ) (e : Entry) (settled : Settled) (out : List Message) (l : DeskState Disk) (text : List ℕ)
      → Like (DeskCalled d sheet (desks.Typed line (Said.Penned e settled)) out l text) (Event.Pen d e) (answers.Penned settled)
  penned d sheet line e settled out l text = record {
    brings = λ t c b. (λ h. pens t c b h.0, λ h. let r = h.1 in (inr (h.0 ∙ ap Station.Desk r.2, same c b r.0 r.1 r.2), tt));
    finds = λ c b. (λ q. absurd (cc (q.0)), λ q. absurd q);
    begins = λ t. (λ q. pen_begins d e t q, λ q. absurd q);
  }
    where
      pens : (t : Station) (c : DeskId) (b : Ballot) → noted.Brings v (Event.Pen d e) t c b
          → Brings game (DeskCalled d sheet (desks.Typed line (Said.Penned e settled)) out l text) t c b
      pens t c b (inl (apart, (k, q, sent))) = absurd (cc (q))
      pens t c b (inr (here, q)) =
          let desk : d ≡ c = cc (q) in
          let entry : e ≡ b.entry = cc (q) in
          (here ∙ ap Station.Desk (sym desk), (settled, ap (λ (x : Entry). Said.Penned x settled) entry, desk))

      same : (c : DeskId) (b : Ballot) (had : Settled) → Said.Penned e settled ≡ Said.Penned b.entry had → d ≡ c → Event.Pen d e ≡ Event.Pen c b.entry
      same c b had p q = cc

  -- the message that the bytes say is given to this station
  module _ (u : Station) (bytes : List ℕ) (i : ℕ) (message : Message) (given : IsGiven v.sent i message) (says : Says game bytes message) where
    abbrev Came : Station → DeskId → Ballot → Type 0
    Came t c b = (t ≡ u) × (u ≢ Station.Desk c) × SayVote game bytes c b

    came : (t : Station) (c : DeskId) (b : Ballot) → noted.Brings v (Event.Give i u) t c b → Came t c b
    came t c b (inl (apart, (k, e, sent))) =
        let here : u ≡ t = cc (e) in
        let vote = Message.Vote (vote_of c b) in
        let there = subst (λ (j : ℕ). slice_get v.sent j ≡ Some vote) (number k t e) sent in
        (sym here, λ q. apart (sym here ∙ q), subst (Says game bytes) (given_there v.sent i message vote there given) says)
      where
        number : (k : ℕ) (t : Station) → Event.Give i u ≡ Event.Give k t → k ≡ i
        number k t e = cc (e)
    came t c b (inr (here, e)) = absurd (cc (e))

    comes : (t : Station) (c : DeskId) (b : Ballot) → t ≡ u → (u ≢ Station.Desk c) → SayVote game bytes c b → noted.Brings v (Event.Give i u) t c b
    comes t c b here apart vote =
        let is = subst (IsGiven v.sent i) (says_once game bytes message (Message.Vote (vote_of c b)) says vote) given in
        inl (λ q. apart (sym here ∙ q), (i, ap (Event.Give i) (sym here), given_vote v.sent i (vote_of c b) is))

  -- a message that a desk hears
  pub heard : (d : DeskId) (sheet : Sheet) (bytes : List ℕ) (x : Heard) (out : List Message) (l : DeskState Disk) (text : List ℕ) (i : ℕ) (message : Message)
      → IsGiven v.sent i message → Says game bytes message
      → Like (DeskCalled d sheet (desks.Given bytes (What.Heard x)) out l text) (Event.Give i (Station.Desk d)) (answers.Told x)
  heard d sheet bytes x out l text i message given says = record {
    brings = λ t c b. (
      λ h. let g = came (Station.Desk d) bytes i message given says t c b h.0 in (g.0, (x, refl, λ q. g.1 (ap Station.Desk q), g.2)),
      λ h. let r = h.1 in (comes (Station.Desk d) bytes i message given says t c b h.0 (λ q. r.2 (desk_in d c q)) r.3, tt),
    );
    finds = λ c b. (λ q. absurd (cc (q.0)), λ q. absurd q);
    begins = λ t. (λ q. give_begins i (Station.Desk d) t q, λ q. absurd q);
  }

  -- and one that a board hears
  pub board_heard : (n : ℕ) (sheet : Sheet) (bytes : List ℕ) (x : Heard) (out : List Message) (l : BoardState) (text : List ℕ) (seen : List Sight)
      (i : ℕ) (message : Message) → IsGiven v.sent i message → Says game bytes message
      → Like (BoardCalled n sheet (boards.Given bytes (Ok (What.Heard x))) out l text seen) (Event.Give i (Station.Board n)) (answers.Told x)
  board_heard n sheet bytes x out l text seen i message given says = record {
    brings = λ t c b. (
      λ h. let g = came (Station.Board n) bytes i message given says t c b h.0 in (g.0, (x, refl, g.2)),
      λ h. let r = h.1 in (comes (Station.Board n) bytes i message given says t c b h.0 (λ q. cc (q)) r.2, tt),
    );
    finds = λ c b. (λ q. absurd (cc (q.0)), λ q. absurd q);
    begins = λ t. (λ q. give_begins i (Station.Board n) t q, λ q. absurd q);
  }

  abbrev Reads : DeskId → List Ballot → Type 0
  Reads c votes = (s.view c (node v c).version).reads (process_disk (node v c).process) ≡ Some votes

  -- a desk begins on its file
  pub opened : (d : DeskId) (k : DeskState Disk) (votes : List Ballot) (disk : Disk) → (node v d).process ≡ Down votes disk
      → (s.view d (node v d).version).reads disk ≡ Some k.votes → Like (DeskBegun d (Opened k)) (Event.Open d) (answers.Opened (length k.book))
  opened d k votes disk at reads = record {
    brings = λ t c b. (λ h. absurd (never t c b h.0), λ h. absurd h);
    finds = λ c b. (found c b, λ q. finds c b q.0 q.1 q.2);
    begins = λ t. (λ q. open_begins d t q, λ q. ap beginning_of (sym q));
  }
    where
      never : (t : Station) (c : DeskId) (b : Ballot) → noted.Brings v (Event.Open d) t c b → ⊥
      never t c b (inl (apart, (i, q, sent))) = absurd (cc (q))
      never t c b (inr (own, q)) = absurd (cc (q))

      here : Reads d k.votes
      here = rw at reads

      found : (c : DeskId) (b : Ballot) → Found (Event.Open d) (answers.Opened (length k.book)) c b → IsFound (DeskBegun d (Opened k)) c b
      found c b q =
          let desk : d ≡ c = cc (q.0) in
          let there : Reads d (b ∷ q.2.0) = subst (λ (x : DeskId). Reads x (b ∷ q.2.0)) (sym desk) q.2.1 in
          (desk, q.2.0, cc (here, there))

      finds : (c : DeskId) (b : Ballot) → d ≡ c → (before : List Ballot) → k.votes ≡ b ∷ before → Found (Event.Open d) (answers.Opened (length k.book)) c b
      finds c b desk before is = (ap Event.Open desk, (length k.book, refl), (before, subst (λ (x : DeskId). Reads x (b ∷ before)) desk (here ∙ ap Some is)))

  -- a board begins
  pub wiped : (n : ℕ) → Like (BoardBegun n) (Event.Wipe n) answers.Done
  wiped n = record {
    brings = λ t c b. (λ h. absurd h.1, λ h. absurd h);
    finds = λ c b. (λ q. absurd (cc (q.0)), λ q. absurd q);
    begins = λ t. (λ q. wipe_begins n t q, λ q. ap beginning_of (sym q));
  }
