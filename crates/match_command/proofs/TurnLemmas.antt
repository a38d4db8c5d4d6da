-- What each call keeps of a desk's turn, whatever the desk is given.
use Rattle.std.proofs.Common.{◌≡◌, ◌<◌, ◌≤◌, ℕ, ◌+◌, None, List, [], ◌∷◌, ◌++◌, length, sym, ap, ◌∙◌, subst, inl, inr, ◌⊎◌, arith, length-append, Result, Ok, Err}
use Rattle.std.specs.Prelude.{IfErr, OnOk}
use Rattle.std.specs.List.{All}
use Rattle.std.proofs.lemmas.Bool.Decides.{nat_tests}
use Rattle.std.proofs.lemmas.Grind.{length_at_push}
use Rattle.std.proofs.lemmas.List.Elements.{All-append, All-cons, All-nil}
use Rattle.notation.specs.declared.entry.{Entry.Entry}
use Rattle.corrections.specs.declared.book_of.BookOf.{Ghosts as Books}
use Rattle.corrections.proofs.LegalLemmas.{slice_get-last}
use Rattle.entry_log.specs.Blame.{BlamesDisk}
use Rattle.entry_log.specs.declared.{disk.Disk.Ghosts as Disks, slots_of.SlotsOf.Ghosts as Files}
use Rattle.agree_core.specs.declared.{messages.Ask.Ask, messages.DeskId.DeskId, messages.Message.Message, messages.Vote.Vote}
use Rattle.agree_core.specs.declared.seat.{Heard.Heard, Settled.Settled}
use Rattle.agree_core.specs.Ballots.{Ballot}
use Rattle.agree_core.specs.Desks.{CastsAndStores, DeskState, Pens, Replies, Ticks, book_heard, next_ballot}
use Rattle.agree_core.specs.Desks as desks
use Rattle.agree_core.specs.FileView.{FileView, Holds, MayHold, Stays}
use Rattle.agree_core.specs.Openings.{Creates}
use Rattle.agree_core.specs.Seats.{Hears, SeatState}
use Rattle.wire.specs.declared.what.What.{What}
use Rattle.wire.specs.Sent.{AreSent}
use Rattle.desk.specs.declared.{desk.Desk.Desk, desk.Penned.Penned, refusal.Refusal.Refusal as PenRefusal}
use Rattle.desk.specs.Answers.{pen_answer, sent}
use Rattle.desk.specs.Desk.{SameOwner, disk_of, game_of, rules_of, state_of, view_of, own_votes}
use Rattle.desk.specs.Takes.{Takes}
use Rattle.vote_store.specs.View.{file_view}
use Rattle.match_command.specs.MatchRun.{HoldsEither, votes_for}
use Rattle.cards.specs.Sheet.{Sheet, plain_sheet}
use Rattle.books.specs.Taking.{answer_to, taking, with_taken}
use Rattle.match_command.specs.declared.match_run.fault.MatchFault.{MatchFault}
use Rattle.live.specs.Desks.{Calls, DeskCall, Given, Ticked, receivers_of}
use Rattle.live.specs.Ends.{end_at, further}
use Rattle.links.specs.Passed.{Passed}
use Rattle.board.specs.declared.board.Board.{Board}
use Rattle.board.specs.Board as boards
use Rattle.board.specs.Board.{SameMatch}
use Rattle.match_command.specs.inner.Online.{IsOnline, SpeaksOf, StaysOnline}
use Rattle.match_command.specs.inner.Turns.{AreCalm, AreLevel, DiskHolds, DiskHoldsEither, GoesWith, InTurn, IsInTurn, IsLevel, KeepsDisk}
use Rattle.match_command.specs.inner.Turns.{KeepsOnline, KeepsTurn, LineLeaves, PenLeaves, VotesFor, WhyNotAgreed, board_at, book_at, innings_at, pen_fault}
use Rattle.match_command.proofs.OnlineLemmas.{more, out_said, says_more}
use Rattle.match_command.proofs.VoteLists.{are_for, votes_last}

-- a seat whose book has all entries is in the first round, and has no pending vote
level_free : (book : List Entry) (seat : SeatState) → GoesWith book seat book → (seat.position.round ≡ 0) × (seat.mine ≡ None)
level_free book seat g = grind (arith, length_at_push {X = Entry})

hears : (entries book : List Entry) (s t : SeatState) (v : Vote) (h : Heard) → GoesWith entries s book → Hears s v h t → GoesWith entries t (book_heard h book v.entry)
hears entries book s t v h g c = grind (arith, length_at_push {X = Entry})

module _ {Disk : Type 0} (view : FileView Disk) where
  pub begins : (d : DeskId) (k : DeskState Disk) → Creates view d k → IsInTurn view [] k
  begins d k c = grind arith

  -- the vote that is cast is the next one of the votes for the entries
  next_vote : (k : DeskState Disk) (e : Entry) → IsInTurn view k.book k → next_ballot k e ∷ k.votes ≡ votes_for (k.book ++ e ∷ [])
  next_vote k e t = grind (arith, level_free k.book k.seat t.goes, votes_last k.book e)

  -- the vote is cast and stored
  pub casts : (k l : DeskState Disk) (e : Entry) (settled : Settled) → IsInTurn view k.book k → CastsAndStores view k e settled l
      → IsInTurn view (k.book ++ e ∷ []) l
  casts k l e settled t c = grind (arith, next_vote k e t, level_free k.book k.seat t.goes, length_at_push {X = Entry})

  -- the vote may be stored or not
  pub may_cast : (k : DeskState Disk) (disk : Disk) (e : Entry) → IsInTurn view k.book k → MayHold view disk k.votes (next_ballot k e)
      → HoldsEither view disk k.book (k.book ++ e ∷ [])
  may_cast k disk e t h = grind (arith, next_vote k e t)

  stays_held : (old new : Disk) (votes : List Ballot) → Stays view old new → Holds view old votes → Holds view new votes
  stays_held old new votes s h = (s.0 ∙ h.0, λ image i. h.1 image ((s.1 image).0 i))

  replies : (entries : List Entry) (k : DeskState Disk) (q : Ask) (out : List Message) → IsInTurn view entries k → Replies k q out
      → All (SpeaksOf entries) out
  replies entries k q out t (inl r) = rw r.2 (All-cons (SpeaksOf entries) _ [] ((are_for entries).each _ (rw t.votes at r.1)) (All-nil (SpeaksOf entries)))
  replies entries k q out t (inr r) = rw r.1 (All-nil (SpeaksOf entries))

  -- if no device call fails, a desk that takes bytes goes on with the same votes, and its replies speak of its entries
  went : (game : ℕ) (entries : List Entry) (k l : DeskState Disk) (bytes : List ℕ) (what : What) (out : List Message) → end_at what ≡ further
      → Takes view game k bytes what l out → IsInTurn view entries k → IsInTurn view entries l × All (SpeaksOf entries) out
  went game entries k l bytes (What.Heard h) out n (Message.Vote v, says, r) t = (
    grind (arith, r.3, stays_held k.disk l.disk (votes_for entries) r.2 t.held, hears entries k.book k.seat l.seat v h t.goes r.1),
    rw r.4 (All-nil (SpeaksOf entries)),
  )
  went game entries k l bytes What.Asked out n (Message.Ask q, says, r) t =
      (grind (arith, r.1.1, stays_held k.disk l.disk (votes_for entries) r.1.0 t.held), replies entries k q out t r.2)
  went game entries k l bytes (What.Bad fault) out n r t = rw (r.2, r.3) (t, All-nil (SpeaksOf entries))
  went game entries k l bytes what out n r t = absurd (grind arith)

  -- each unasked message speaks of the desk's entries too
  pub ticks_speak : (entries : List Entry) (k : DeskState Disk) (out : List Message) → IsInTurn view entries k → Ticks k out → All (SpeaksOf entries) out
  ticks_speak entries k out t w = grind (arith, slice_get-last k.book, All-cons (SpeaksOf entries), All-append (SpeaksOf entries), All-nil (SpeaksOf entries))

module _ {S B D : Type 0} {g : Files S D} {h : Disks D} {b : Books B} where
  same_view : (old new : Desk S B D g h b) → SameOwner old new → view_of old ≡ view_of new
  same_view old new o = sym (λ i. file_view g.contents h.seen h.images (o.desk i) (o.game i))

  in_view : (entries : List Entry) (old new : Desk S B D g h b) → SameOwner old new → IsInTurn (view_of old) entries (state_of new) → InTurn entries new
  in_view entries old new o t = subst (λ (v : FileView D). IsInTurn v entries (state_of new)) (same_view old new o) t

  called_online : (s : Sheet) (old new : Desk S B D g h b) (call : DeskCall) (entries : List Entry) (before after : List Passed)
      (c : Calls s old new call before after) → All (SpeaksOf entries) c.out → StaysOnline (game_of old) entries before after
  called_online s old new call entries before after c speak start k o =
      says_more (game_of old) start entries _ before after k (out_said (receivers_of call) (game_of old) entries c.out c.fine speak) c.passed o

  -- the desk was given bytes, and goes on; each reply speaks of its entries
  pub given : (old new : Desk S B D g h b) (bytes : List ℕ) (what : What) (before after : List Passed)
      → ((s : Sheet) → Calls s old new (Given bytes what) before after) → end_at what ≡ further
      → KeepsTurn old new × ((entries : List Entry) → InTurn entries old → StaysOnline (game_of old) entries before after)
  given old new bytes what before after f n =
      let c = f (plain_sheet 0 1) in
      let o = c.same in
      let runs : (state_of new).failed ≡ (state_of old).failed = grind (arith, n, c.step) in
      let w = λ (entries : List Entry). went (view_of old) (game_of old) entries (state_of old) (state_of new) bytes what c.out n c.step in (
        record {
          turn = λ entries t. in_view entries old new o (w entries t).0;
          calm = λ q. record { running = runs ∙ q.running; never = rw ((c.blame q.running).same (λ e. grind (arith, n, e))) q.never; room = rw o.cap q.room };
        },
        λ entries t. called_online (plain_sheet 0 1) old new (Given bytes what) entries before after c (w entries t).1,
      )

  -- each unasked message keeps the stations online too
  pub ticked_online : (desk : Desk S B D g h b) (entries : List Entry) (before after : List Passed)
      → ((s : Sheet) → Calls s desk desk Ticked before after) → InTurn entries desk → StaysOnline (game_of desk) entries before after
  ticked_online desk entries before after f t =
      let c = f (plain_sheet 0 1) in
      called_online (plain_sheet 0 1) desk desk Ticked entries before after c (ticks_speak (view_of desk) entries (state_of desk) c.out t c.step.0)

  abbrev PenSteps : Desk S B D g h b → Entry → Result Penned PenRefusal → Desk S B D g h b → Type 0
  PenSteps old e told new =
      AreSent (game_of old) (sent told) (λ out. Pens (view_of old) (rules_of old) (state_of old) e (pen_answer told) (state_of new) out)

  takes_entry : (old : Desk S B D g h b) (e : Entry) → IsLevel old → desks.MayPen (rules_of old) (state_of old) e → taking (innings_at old) (book_at old) e ≡ Ok e
  takes_entry old e l may = grind (arith, nat_tests, l.goes.place, may)

  -- the desk has penned an entry
  pub voted : (old new : Desk S B D g h b) (e : Entry) (penned : Penned) → IsLevel old → SameOwner old new → PenSteps old e (Ok penned) new
      → BlamesDisk PenRefusal.Device (g.room (length (own_votes old) + 1) ≤ h.cap (disk_of old)) (Ok penned) (h.faults (disk_of old)) (h.faults (disk_of new)) → VotesFor e old new
  voted old new e penned l o step blame =
      let t = casts (view_of old) (state_of old) (state_of new) e penned.settled l step.3.1 in
      record {
        taken = takes_entry old e l step.3.0;
        turn = in_view (book_at old ++ e ∷ []) old new o t;
        calm = λ q. record { running = t.running; never = rw (blame.same (λ e. (cc))) q.never; room = rw o.cap q.room };
      }

  refused_holds : (old new : Desk S B D g h b) → IsLevel old → SameOwner old new → desks.Unchanged (view_of old) (state_of old) (state_of new)
      → DiskHolds new (book_at old)
  refused_holds old new l o u =
      subst (λ (v : FileView D). Holds v (disk_of new) (votes_for (book_at old))) (same_view old new o)
      (stays_held (view_of old) (disk_of old) (disk_of new) (votes_for (book_at old)) u.0 l.held)

  -- the desk refuses to pen an entry
  pub refused : (old new : Desk S B D g h b) (e : Entry) (number place : ℕ) (why : PenRefusal) → IsLevel old → SameOwner old new → PenSteps old e (Err why) new
      → PenLeaves e (pen_fault number place why) old new
  refused old new e number place PenRefusal.PlacesFull l o step = refused_holds old new l o step.3.1
  refused old new e number place (PenRefusal.Book why) l o step = refused_holds old new l o step.3.1
  refused old new e number place PenRefusal.Device l o step =
      let either = may_cast (view_of old) (state_of old) (disk_of new) e l step.3.1 in
      (takes_entry old e l step.3.0, subst (λ (v : FileView D). HoldsEither v (disk_of new) (book_at old) (book_at old ++ e ∷ [])) (same_view old new o) either)
  refused old new e number place why l o step =
      absurd (grind (arith, level_free (book_at old) (state_of old).seat l.goes, ap length l.votes, (are_for (book_at old)).long, l.goes.place, l.running, step.3.0))

  -- nothing was written to the disk since
  pub still_holds : (old new : Desk S B D g h b) (book : List Entry) → KeepsDisk old new → DiskHolds old book → DiskHolds new book
  still_holds old new book k held =
      subst (λ (v : FileView D). Holds v (disk_of new) (votes_for book)) (same_view old new k.owner) (rw (k.disk.0, k.disk.1) held)

  either_more : (desk : Desk S B D g h b) (book longer : List Entry) → DiskHolds desk longer → DiskHoldsEither desk book longer
  either_more desk book longer d = record { read = inr d.0; images = λ image i. inr (d.1 image i) }

  -- a turn of each station
  pub one_round : {a0 a b0 b' : Desk S B D g h b} (k0 k l : Board B b) {log0 log log1 log2 log3 : List Passed} → KeepsTurn a0 a → KeepsTurn b0 b'
      → KeepsDisk a0 a → KeepsDisk b0 b' → boards.game_of k ≡ boards.game_of k0 → KeepsOnline a0 b0 k0 k log0 log
      → ((entries : List Entry) → InTurn entries a → StaysOnline (game_of a) entries log log1)
      → ((entries : List Entry) → InTurn entries b' → StaysOnline (game_of b') entries log1 log2)
      → ((start : List Passed) (entries : List Entry) → IsOnline (boards.game_of k) start entries log2 (board_at k)
      → IsOnline (boards.game_of k) start entries log3 (board_at l)) → KeepsOnline a0 b0 k0 l log0 log3
  one_round k0 k l ka kb da db same before at_a at_b at_board start entries ta tb gb gk o =
      let one = before start entries ta tb gb gk o in
      let two = (rw da.owner.game at (at_a entries (ka.turn entries ta))) start (board_at k) one in
      let three = (rw (db.owner.game ∙ gb) at (at_b entries (kb.turn entries tb))) start (board_at k) two in
      (rw (same ∙ gk) at (at_board start entries)) three

  -- the entry's place is agreed
  settled : (book : List Entry) (e : Entry) (desk : Desk S B D g h b) → InTurn (book ++ e ∷ []) desk → length book < length (book_at desk) → book_at desk ≡ book ++ e ∷ []
  settled book e desk t l = grind (arith, t.goes, length-append {A = Entry})

  -- what holds once both desks have penned a line, and all three stations have agreed it
  pub record Agreed (a b0 a2 b2 : Desk S B D g h b) (k l : Board B b) (e : Entry) (log new : List Passed) : Type 0 where
    pub level : AreLevel a2 b2 l
    pub book : book_at a2 ≡ book_at a ++ e ∷ []
    pub calm : AreCalm a b0 → AreCalm a2 b2
    pub online : (start : List Passed) → IsOnline (game_of a) start (book_at a) log (board_at k) → IsOnline (game_of a) start (book_at a2) new (board_at l)

  pub agreed : (r : Result (Unit {0}) MatchFault) (a a1 a2 b0 b1 b2 : Desk S B D g h b) (k l : Board B b) (e : Entry) (place : ℕ) (log new : List Passed) → AreLevel a b0 k → VotesFor e a a1
      → VotesFor e b0 b1 → SameOwner a a1 → SameOwner b0 b1 → place ≡ length (book_at a) →
      KeepsDisk a1 a2 → KeepsDisk b1 b2 → OnOk r (KeepsTurn a1 a2) → OnOk r (KeepsTurn b1 b2) → OnOk r (SameMatch b.innings_a_side k l) → OnOk r (KeepsOnline a1 b1 k l log new) →
      OnOk r (place < length (book_at a2)) → OnOk r (place < length (book_at b2)) → OnOk r (place < length (b.content (boards.book_of l))) → OnOk r (Agreed a b0 a2 b2 k l e log new)
  agreed (Err why) a a1 a2 b0 b1 b2 k l e place log new level va vb oa ob at da db ka kb same keeps la lb lk = tt
  agreed (Ok done) a a1 a2 b0 b1 b2 k l e place log new level va vb oa ob at da db ka kb same keeps la lb lk =
      let es = book_at a ++ e ∷ [] in
      let turn_a = ka.turn es va.turn in
      let turn_b = kb.turn (book_at b0 ++ e ∷ []) vb.turn in
      let book_a = settled (book_at a) e a2 turn_a (rw at at la) in
      let book_b = settled (book_at b0) e b2 turn_b (rw (at ∙ ap length (sym level.book)) at lb) in
      record {
        level = grind (arith, oa, ob, da.owner, db.owner, book_a, book_b, rw (← book_a) at turn_a, rw (← book_b) at turn_b, length_at_push {X = Entry});
        book = book_a;
        calm = λ calm. record { calm_a = ka.calm (va.calm calm.calm_a); calm_b = kb.calm (vb.calm calm.calm_b) };
        online = λ start o.
            let one = subst (λ (n : ℕ). IsOnline n start es log (board_at k)) (sym oa.game) (more (game_of a) start (book_at a) e log (board_at k) o) in
            let two = keeps start es va.turn (rw level.book at vb.turn) (ob.game ∙ (level.game ∙ sym oa.game)) (level.board_game ∙ sym oa.game) one in
            rw book_a (subst (λ (n : ℕ). IsOnline n start es new (board_at l)) oa.game two);
      }

  -- the first desk refuses to pen the line's entry
  pub first_left : (a a1 b0 : Desk S B D g h b) (line : List ℕ) (e : Entry) (fault : MatchFault) → answer_to (innings_at a) (book_at a) line ≡ taking (innings_at a) (book_at a) e
      → PenLeaves e fault a a1 → DiskHolds b0 (book_at a) →
      LineLeaves (book_at a) (with_taken (answer_to (innings_at a) (book_at a) line) (book_at a)) fault a1 b0
  first_left a a1 b0 line e (MatchFault.Line number why) is p d = (p, d)
  first_left a a1 b0 line e MatchFault.Device is p d = rw (is, p.0) (p.1, record { read = inl d.0; images = λ image i. inl (d.1 image i) })
  first_left a a1 b0 line e _ is p d = absurd p

  -- the first desk has penned the entry, and the second refuses it
  pub second_left : (a1 b0 b1 : Desk S B D g h b) (book longer : List Entry) (number : ℕ) (e : Entry) (fault : MatchFault) → longer ≡ book ++ e ∷ [] → book_at b0 ≡ book
      → taking (innings_at b0) (book_at b0) e ≡ Ok e →
      WhyNotAgreed (taking (innings_at b0) (book_at b0) e) (book_at b0) number fault → PenLeaves e fault b0 b1 → DiskHolds a1 (book ++ e ∷ []) → LineLeaves book longer fault a1 b1
  second_left a1 b0 b1 book longer number e (MatchFault.Line at why) is same taken w p d = absurd (let both : Ok e ≡ Err why = sym taken ∙ w.1 in cc)
  second_left a1 b0 b1 book longer number e MatchFault.Device is same taken w p d = rw is (either_more a1 book (book ++ e ∷ []) d, rw same at p.1)
  second_left a1 b0 b1 book longer number e _ is same taken w p d = absurd p

  -- both desks have penned the entry, and it isn't agreed
  pub third_left : (r : Result (Unit {0}) MatchFault) (a1 a2 b1 b2 : Desk S B D g h b) (book longer : List Entry) (place : ℕ)
      → IfErr r (λ fault. (fault ≡ MatchFault.Device) ⊎ (fault ≡ MatchFault.NotAgreed place)) →
      KeepsDisk a1 a2 → KeepsDisk b1 b2 → DiskHolds a1 longer → DiskHolds b1 longer → IfErr r (λ fault. LineLeaves book longer fault a2 b2)
  third_left (Ok done) a1 a2 b1 b2 book longer place only da db x y = tt
  third_left (Err fault) a1 a2 b1 b2 book longer place (inl is) da db x y =
      rw is (either_more a2 book longer (still_holds a1 a2 longer da x), either_more b2 book longer (still_holds b1 b2 longer db y))
  third_left (Err fault) a1 a2 b1 b2 book longer place (inr is) da db x y = rw is (still_holds a1 a2 longer da x, still_holds b1 b2 longer db y)
