-- What a datagram shows of lines that the file of either desk lacks.
use Rattle.std.proofs.Common.{arith, ◌≡◌, ℕ, Bool, true, false, List, [], ◌∷◌, Option, Some, None, Result, Ok, refl, sym, ap, ◌∙◌, subst, inr, map, not, ◌&&◌, IsTrue, ◌↔◌}
use Rattle.std.specs.Prelude.{◌==◌, nat_lt, is_some, if◌then◌else◌}
use Rattle.std.specs.Result.{ForOk}
use Rattle.std.specs.Str.{bytes_eq}
use Rattle.std.proofs.lemmas.Bool.Decides.{Decides-and, Decides-eqb, Decides-like, Decides-ltb, Decides-or, nat_tests, same_from_decides}
use Rattle.std.proofs.lemmas.Slice.Eq.{bytes_eq-Decides}
use Rattle.notation.specs.declared.entry.Entry.{Entry}
use Rattle.notation.specs.Code.{code}
use Rattle.notation.specs.Written.{IsEntry}
use Rattle.notation.proofs.Decoded.{code_once}
use Rattle.agree_core.specs.declared.messages.{Ask.Ask, DeskId.DeskId, Vote.Vote}
use Rattle.agree_core.specs.Ballots.{Ballot, In}
use Rattle.agree_core.specs.Positions.{Before, next_place, next_round, position_of}
use Rattle.vote_store.specs.VoteList.{last_vote}
use Rattle.agree_core.specs.declared.{messages.Message.Message, position.Position.Position, seat.Heard.Heard}
use Rattle.agree_core.specs.Desks.{Asked, DeskState, Receives, Replies, Told}
use Rattle.agree_core.specs.FileView.{FileView}
use Rattle.agree_core.specs.LostLines.{is_another, is_at, is_before, is_in_reach, is_voted}
use Rattle.agree_core.specs.Seats.{SeatState}
use Rattle.desk.specs.Answers.{replied}
use Rattle.desk.specs.Takes.{Takes}
use Rattle.wire.specs.Layout.{IsMessage, Says, body_in, is_at as message_at, written}
use Rattle.wire.specs.Reading.{Reads}
use Rattle.wire.specs.Sent.{AreSent}
use Rattle.wire.specs.declared.{fault.WireFault.WireFault, what.What.What}
use Rattle.wire.proofs.FaultLemmas.{reads_once}
use Rattle.wire.proofs.MessageLemmas.{asker_of, code_in, place_of, round_of}
use Rattle.live.specs.LostLines.{asker_in, evidence, evidence_of, is_other, is_other_last, is_unkept, position_in}
use Rattle.live.specs.declared.lost_lines.Bearing.{Bearing}
use Rattle.station_texts.specs.declared.doubt.Evidence.TheVariants.{Nothing, OtherLacks, Ahead, Unkept, Level}

-- the position in the bytes is that of their message
pub position_of_message : (game : ℕ) (bytes : List ℕ) (m : Message) → Says game bytes m → position_in bytes ≡ message_at m
position_of_message game bytes m says = λ i. record { place = place_of game bytes m says i; round = round_of game bytes m says i }

-- a message that was read has its numbers in range
pub is_message : (game : ℕ) (bytes : List ℕ) (read : Result Message WireFault) → Reads game bytes read → ForOk read IsMessage
is_message game bytes read reads m is = let says : Says game bytes m = subst (Reads game bytes) is reads in says.0

-- ---- of the other desk's file

module _ (s : SeatState) (at : Position) (entry : List ℕ) where
  -- to a desk without a vote, no vote of the other desk contradicts the way it went
  pub none_cast : (desk : DeskId) (votes : List Ballot) → last_vote desk votes ≡ None → is_another s votes at entry ≡ false
  none_cast desk votes e = grind arith

  -- whether a vote does, by this desk's last vote
  pub by_last : (desk : DeskId) (votes : List Ballot) (v : Vote) → last_vote desk votes ≡ Some v
      → is_another s votes at entry ≡ (if is_at (position_of v) at
      then is_at (if bytes_eq entry (code v.entry) then next_round (position_of v) else next_place (position_of v)) s.position
      else is_before (position_of v) at)
  by_last desk votes v e = grind arith

-- without a vote, there is no last vote for another entry
pub none_last : (at : Position) (entry : List ℕ) (desk : DeskId) (votes : List Ballot) → last_vote desk votes ≡ None → is_other_last votes at entry ≡ false
none_last at entry desk votes e = grind arith

pub other_last : (at : Position) (entry : List ℕ) (desk : DeskId) (votes : List Ballot) (v : Vote) → last_vote desk votes ≡ Some v
    → is_other_last votes at entry ≡ (is_at (position_of v) at && not (bytes_eq entry (code v.entry)))
other_last at entry desk votes v e = grind arith

-- two entries are equal exactly if their codes are
pub is_coded : (r : Bool) (e f : Entry) → IsEntry e → IsEntry f → IsTrue r ↔ (e ≡ f) → r ≡ bytes_eq (code e) (code f)
is_coded r e f h k same =
    same_from_decides r (bytes_eq (code e) (code f)) same
    (Decides-like (bytes_eq (code e) (code f)) (λ x. code_once e f h k x) (λ x. ap code x) (bytes_eq-Decides (code e) (code f)))

-- a position is equal to itself alone
at_self : (p : Position) → is_at p p ≡ true
at_self p = grind (arith, nat_tests)

at_once : (p q : Position) → is_at p q ≡ true → p ≡ q
at_once p q e = grind (arith, nat_tests)

-- whether a position comes before another one is decided by their numbers
pub comes_before : (r : Bool) (p q : Position) → IsTrue r ↔ Before p q → r ≡ is_before p q
comes_before r p q same =
    same_from_decides r (is_before p q) same
    (Decides-or (nat_lt p.place q.place) ((p.place == q.place) && nat_lt p.round q.round) (Decides-ltb p.place q.place)
    (Decides-and (p.place == q.place) (nat_lt p.round q.round) (Decides-eqb p.place q.place) (Decides-ltb p.round q.round)))

-- a desk has voted at a position exactly if its replies to an ask for that position include a vote
voted_in : (votes : List Ballot) (at : Position) (e : Entry) → In (record { at = at; entry = e }) votes → is_voted votes at ≡ true
voted_in [] at e i = absurd i
voted_in (b ∷ bs) at e i = grind (arith, at_self, voted_in bs at e)

not_voted : (votes : List Ballot) (at : Position) → ((e : Entry) → In (record { at = at; entry = e }) votes → ⊥) → is_voted votes at ≡ false
not_voted [] at n = refl
not_voted (b ∷ bs) at n = grind (arith, at_once b.at at, n b.entry, not_voted bs at (λ e i. n e (inr i)))

module _ {Disk : Type 0} (view : FileView Disk) (game : ℕ) (k l : DeskState Disk) where
  -- an ask is replied to exactly if the desk has voted
  by_reply : (q : Ask) (reply : Option (List ℕ)) (out : List Message) → replied reply ≡ map (written game) out → Replies k q out
      → is_some reply ≡ is_voted k.votes (message_at (Message.Ask q))
  by_reply q reply out sent r = grind (arith, voted_in, not_voted)

  by_message : (bytes : List ℕ) (reply : Option (List ℕ)) (out : List Message) (m : Message) → Says game bytes m
      → replied reply ≡ map (written game) out → Receives view k m Asked l out → is_some reply ≡ is_voted k.votes (position_in bytes)
  by_message bytes reply out (Message.Vote v) says sent r = absurd r
  by_message bytes reply out (Message.Ask q) says sent r =
      by_reply q reply out sent r.2 ∙ ap (is_voted k.votes) (sym (position_of_message game bytes (Message.Ask q) says))

  pub replies_so : (bytes : List ℕ) (what : What) (reply : Option (List ℕ)) → AreSent game (replied reply) (λ out. Takes view game k bytes what l out)
      → what ≡ What.Asked → is_some reply ≡ is_voted k.votes (position_in bytes)
  replies_so bytes what reply s e =
      let t : Takes view game k bytes What.Asked l s.0 = rw e at s.3 in
      by_message bytes reply s.0 t.0 t.1 s.2 t.2

  -- the message as read, and the reply, show what the bytes show
  reach_so : (bytes : List ℕ) (read : Result Message WireFault) (m : Message) (reach : Bool) → Says game bytes m → Reads game bytes read
      → ForOk read (λ n. reach ≡ is_in_reach k.seat (message_at n)) → reach ≡ is_in_reach k.seat (position_in bytes)
  reach_so bytes read m reach says reads e =
      e m (reads_once game bytes read (Ok m) reads says) ∙ ap (is_in_reach k.seat) (sym (position_of_message game bytes m says))

  another_so_read : (bytes : List ℕ) (read : Result Message WireFault) (h : Heard) (out : List Message) (another : Bool) (m : Message) → Says game bytes m
      → Receives view k m (Told h) l out → Reads game bytes read
      → ((v : Vote) → read ≡ Ok (Message.Vote v) → another ≡ is_another k.seat k.votes (position_of v) (code v.entry))
      → another ≡ is_another k.seat k.votes (position_in bytes) (body_in bytes)
  another_so_read bytes read h out another (Message.Vote v) says r reads a =
      a v (reads_once game bytes read (Ok (Message.Vote v)) reads says)
      ∙ sym (λ i. is_another k.seat k.votes (position_of_message game bytes (Message.Vote v) says i) (code_in game bytes v says i))
  another_so_read bytes read h out another (Message.Ask q) says r reads a = absurd r

  unkept_so_read : (bytes : List ℕ) (read : Result Message WireFault) (h : Heard) (out : List Message) (unkept : Bool) (m : Message) → Says game bytes m
      → Receives view k m (Told h) l out → Reads game bytes read
      → ((v : Vote) → read ≡ Ok (Message.Vote v) → unkept ≡ is_unkept k.seat k.votes (position_of v) (code v.entry))
      → unkept ≡ is_unkept k.seat k.votes (position_in bytes) (body_in bytes)
  unkept_so_read bytes read h out unkept (Message.Vote v) says r reads a =
      a v (reads_once game bytes read (Ok (Message.Vote v)) reads says)
      ∙ sym (λ i. is_unkept k.seat k.votes (position_of_message game bytes (Message.Vote v) says i) (code_in game bytes v says i))
  unkept_so_read bytes read h out unkept (Message.Ask q) says r reads a = absurd r

  by_asker : (before other voted : Bool) → ((before && other) && not voted) ≡ ((before && not voted) && other)
  by_asker before other voted = grind arith

  pub shown_so : (bytes : List ℕ) (read : Result Message WireFault) (what : What) (out : List Message) (b : Bearing) (has_reply : Bool)
      → Takes view game k bytes what l out → Reads game bytes read
      → ((v : Vote) → read ≡ Ok (Message.Vote v) → b.another ≡ is_another k.seat k.votes (position_of v) (code v.entry))
      → ((v : Vote) → read ≡ Ok (Message.Vote v) → b.unkept ≡ is_unkept k.seat k.votes (position_of v) (code v.entry))
      → ((q : Ask) → read ≡ Ok (Message.Ask q)
      → b.passed_over ≡ (is_before (message_at (Message.Ask q)) k.seat.position && is_other k.seat.desk (Some q.from)))
      → ForOk read (λ m. b.in_reach ≡ is_in_reach k.seat (message_at m))
      → ((q : Ask) → read ≡ Ok (Message.Ask q)
      → b.is_level ≡ (is_at (message_at (Message.Ask q)) k.seat.position && is_other k.seat.desk (Some q.from)))
      → (what ≡ What.Asked → has_reply ≡ is_voted k.votes (position_in bytes))
      → evidence_of (record b { passed_over = b.passed_over && not has_reply }) what ≡ evidence k.seat k.votes bytes what
  shown_so bytes read (What.Heard Heard.Old) out b has_reply t reads another unkept passed reach level replied =
      ap (λ (x : Bool). if x then OtherLacks else Nothing) (another_so_read bytes read Heard.Old out b.another t.0 t.1 t.2 reads another)
  shown_so bytes read (What.Heard Heard.Mine) out b has_reply t reads another unkept passed reach level replied =
      ap (λ (x : Bool). if x then Unkept else Nothing) (unkept_so_read bytes read Heard.Mine out b.unkept t.0 t.1 t.2 reads unkept)
  shown_so bytes read (What.Heard Heard.Ahead) out b has_reply t reads another unkept passed reach level replied =
      ap (λ (x : Bool). if x then Nothing else Ahead) (reach_so bytes read t.0 b.in_reach t.1 reads reach)
  shown_so bytes read What.Asked out b has_reply (Message.Vote v, says, r) reads another unkept passed reach level replied = absurd r
  shown_so bytes read What.Asked out b has_reply (Message.Ask q, says, r) reads another unkept passed reach level replied =
      let is : read ≡ Ok (Message.Ask q) = reads_once game bytes read (Ok (Message.Ask q)) reads says in
      let here = position_of_message game bytes (Message.Ask q) says in
      let who : Some q.from ≡ asker_in bytes = sym (asker_of game bytes q says) in
      let over = passed q is ∙ (λ i. is_before (sym here i) k.seat.position && is_other k.seat.desk (who i)) in
      let has = replied refl in
      let shown = (λ i. over i && not (has i)) ∙ by_asker (is_before (position_in bytes) k.seat.position) _ (is_voted k.votes (position_in bytes)) in
      let level_is = level q is ∙ (λ i. is_at (sym here i) k.seat.position && is_other k.seat.desk (who i)) in
      λ i. if shown i then OtherLacks else (if level_is i then Level else Nothing)
  shown_so bytes read what out b has_reply t reads another unkept passed reach level replied = refl
