-- What every call of a desk preserves, on any disk.
use Rattle.std.proofs.lemmas.Grind.{common_steps}
use Rattle.std.proofs.Common.{◌≡◌, ◌≢◌, true≢false, Option, Some, None, List, [], ◌∷◌, ◌++◌, refl, sym, ◌∙◌, subst, inl, arith, length-append}
use Rattle.notation.specs.declared.entry.Entry.{Entry}
use Rattle.agree_core.specs.declared.{messages.DeskId.DeskId, messages.Message.Message, messages.Vote.Vote, position.Position.Position, seat.Heard.Heard, seat.Settled.Settled}
use Rattle.agree_core.specs.Ballots.{Ballot, Differed, In, Justified, Within, ballot_of}
use Rattle.agree_core.specs.Books.{Rules, book_of}
use Rattle.agree_core.specs.Desks.{DeskState, Fails, MayCast, PenAnswer, Pens, ReceiveAnswer, Receives, Ticks, Unchanged, ask_other, asker, book_after, book_heard, next_ballot, own_vote}
use Rattle.agree_core.specs.FileView.{FileView, Holds, MayHold, MaySync, Stays, Synced}
use Rattle.agree_core.specs.Openings.{Creates, OpenRefusal, Opening, Opens, opened}
use Rattle.agree_core.specs.Positions.{InRange, next_place, next_round}
use Rattle.agree_core.specs.Seats.{Casts, Hears, SeatState, casting, waiting}
use Rattle.agree_core.specs.Keeping.{DeskFine, DeskKept, DiskFine, Each, MineFine, NotedFine, OneMore, OwnMessage, SeatFine, ShowsMore, TheirMessage}
use Rattle.agree_core.proofs.FileBooks.{book_both, book_closed, book_kept, book_long}
use Rattle.agree_core.proofs.Order.{follows_grows, in_sequence, justified_grows}
use Rattle.agree_core.proofs.Boards.{noted_grows}
use Rattle.agree_core.proofs.Both.{both_grow, both_push, more, same}

module _ (d : DeskId) (theirs : List Ballot) where
  -- a desk casts its vote, and the other desk's isn't there
  casts : (own : List Ballot) (s : SeatState) (book : List Entry) (e : Entry) → SeatFine d own theirs s book
      → s.mine ≡ None → InRange s.position
      → SeatFine d (record { at = s.position; entry = e } ∷ own) theirs (casting s e) book
  casts own s book e f n r = grind (arith, both_grow, more, same)

  -- once both votes of a round are there and equal, the desk waits at the next place
  agrees : (own : List Ballot) (s : SeatState) (book : List Entry) (e : Entry) → SeatFine d own theirs s book
      → s.mine ≡ Some e → In (record { at = s.position; entry = e }) theirs
      → SeatFine d own theirs (waiting s.desk (next_place s.position)) (book ++ e ∷ [])
  agrees own s book e f n i =
      let mine : MineFine theirs own book s.position (Some e) = subst (MineFine theirs own book s.position) n f.mine in
      let b : Ballot = record { at = s.position; entry = e } in
      let both = both_push own theirs 0 book e s.position.place s.position.round in
      grind (arith, mine, both, length-append book (e ∷ []), λ (g : Entry). book_closed (record { at = next_place s.position; entry = g }) b mine.0 book)

  differs : (own : List Ballot) (s : SeatState) (book : List Entry) (e : Entry) → SeatFine d own theirs s book
      → s.mine ≡ Some e → Differed theirs (record { at = s.position; entry = e })
      → SeatFine d own theirs (waiting s.desk (next_round s.position)) book
  differs own s book e f n i = grind (arith, book_kept)

  cast_keeps : (own : List Ballot) (s t : SeatState) (book : List Entry) (e : Entry) (settled : Settled)
      → SeatFine d own theirs s book → s.mine ≡ None → InRange s.position → Casts s e settled t
      → SeatFine d (record { at = s.position; entry = e } ∷ own) theirs t (book_after settled book e)
  cast_keeps own s t book e Settled.Pending f n r c = rw c.1 (casts own s book e f n r)
  cast_keeps own s t book e Settled.Agreed f n r c =
      let i = subst (NotedFine theirs s.position) c.0 f.noted in
      rw c.1 (agrees _ (casting s e) book e (casts own s book e f n r) refl i)
  cast_keeps own s t book e Settled.Differ f n r c = grind (arith, differs, casts)

  -- a desk hears a vote
  hear_keeps : (own : List Ballot) (s t : SeatState) (book : List Entry) (v : Vote) (h : Heard)
      → SeatFine d own theirs s book → (v.desk ≢ d → In (ballot_of v) theirs) → Hears s v h t
      → SeatFine d own theirs t (book_heard h book v.entry)
  hear_keeps own s t book v h f m c = grind (arith, common_steps, agrees, differs)

-- a desk that opens its file stands where its votes leave it
opened_fine : (d : DeskId) (theirs votes : List Ballot) → Justified theirs votes → {Disk : Type 0} → (disk : Disk)
    → SeatFine d votes theirs (opened d disk votes).seat (book_of votes)
opened_fine d theirs [] j disk = grind arith
opened_fine d theirs (b ∷ bs) j disk =
    let mine : MineFine theirs (b ∷ bs) (book_of (b ∷ bs)) b.at (Some b.entry) = (bs, refl, refl) in
    search (arith, mine, book_both theirs (b ∷ bs) j, book_long, in_sequence)

more_justified : (theirs votes these : List Ballot) → Justified theirs votes → OneMore theirs votes these → Justified theirs these
more_justified theirs votes these j h = grind arith

pub more_within : (theirs votes these : List Ballot) → OneMore theirs votes these → Within votes these
more_within theirs votes these h = grind (arith, same, more)

mine_grows : (own theirs theirs' : List Ballot) (book : List Entry) → Within theirs theirs' → (at : Position) (x : Option Entry)
    → MineFine theirs own book at x → MineFine theirs' own book at x
mine_grows own theirs theirs' book g at (Some e) h = h
mine_grows own theirs theirs' book g at None h =
    λ e. (follows_grows theirs theirs' g (record { at = at; entry = e }) own (h e).0, (h e).1)

seat_grows : (d : DeskId) (own theirs theirs' : List Ballot) (s : SeatState) (book : List Entry) → Within theirs theirs'
    → SeatFine d own theirs s book → SeatFine d own theirs' s book
seat_grows d own theirs theirs' s book g h = grind (arith, justified_grows, both_grow, same, mine_grows, noted_grows)

shows_grows : (theirs theirs' votes : List Ballot) → Within theirs theirs' → (o : Option (List Ballot))
    → ShowsMore theirs votes o → ShowsMore theirs' votes o
shows_grows theirs theirs' votes g o h = grind (arith, justified_grows)

shows_votes : (theirs votes found : List Ballot) (o : Option (List Ballot)) → o ≡ Some found → ShowsMore theirs votes o
    → OneMore theirs votes found
shows_votes theirs votes found o e (these, h, k) = let q : found ≡ these = cc in rw q k

each_append : (P : Message → Type 0) (xs ys : List Message) → Each P xs → Each P ys → Each P (xs ++ ys)
each_append P [] ys h k = k
each_append P (x ∷ xs) ys h k = (h.0, each_append P xs ys h.1 k)

asks_own : (d : DeskId) (own : List Ballot) (at : Position) (theirs : Option Entry) (c : DeskId)
    → Each (OwnMessage d own) (ask_other (asker c) at theirs)
asks_own d own at theirs c = grind arith

votes_own : (d c : DeskId) → c ≡ d → (own theirs : List Ballot) (book : List Entry) (at : Position) (mine : Option Entry)
    → MineFine theirs own book at mine → Each (OwnMessage d own) (own_vote c at mine)
votes_own d c q own theirs book at mine m = grind arith

module _ {Disk : Type 0} (view : FileView Disk) (d : DeskId) (theirs : List Ballot) where
  pub held : (votes : List Ballot) (disk : Disk) → Holds view disk votes → DiskFine view d theirs votes disk
  held votes disk h = ((votes, h.0, inl refl), λ shown i. (votes, h.1 shown i, inl refl))

  may_held : (votes : List Ballot) (disk : Disk) (b : Ballot) → Justified theirs (b ∷ votes) → MayHold view disk votes b
      → DiskFine view d theirs votes disk
  may_held votes disk b j h = grind arith

  pub stays_fine : (votes : List Ballot) (old new : Disk) → Stays view old new → DiskFine view d theirs votes old
      → DiskFine view d theirs votes new
  stays_fine votes old new s f = (rw s.0 f.0, λ shown i. f.1 shown ((s.1 shown).0 i))

  stays_held : (votes : List Ballot) (old new : Disk) → Stays view old new → Holds view old votes → Holds view new votes
  stays_held votes old new s h = (s.0 ∙ h.0, λ shown i. h.1 shown ((s.1 shown).0 i))

  synced_fine : (votes : List Ballot) (old new : Disk) → Synced view old new → DiskFine view d theirs votes old
      → DiskFine view d theirs votes new
  synced_fine votes old new s f = (rw s.0 f.0, λ shown i. rw (s.1 shown i) f.0)

  may_sync_fine : (votes : List Ballot) (old new : Disk) → MaySync view old new → DiskFine view d theirs votes old
      → DiskFine view d theirs votes new
  may_sync_fine votes old new h f = grind (arith, stays_fine, synced_fine)

  -- a desk stays fine on another disk that shows the same
  on_disk : (k : DeskState Disk) (disk : Disk) → Stays view k.disk disk → DeskFine view d theirs k
      → DeskFine view d theirs (record k { disk = disk })
  on_disk k disk s f = grind (arith, stays_fine, stays_held)

  -- a desk whose seat, book or disk may change, and that hands out nothing
  silent : (k l m : DeskState Disk) → DeskFine view d theirs m → m.votes ≡ k.votes → l ≡ m → DeskKept view d theirs k l []
  silent k l m f q e = rw e (record { fine = f; grows = rw q (same k.votes); told = tt })

  unchanged : (k l : DeskState Disk) → DeskFine view d theirs k → Unchanged view k l → DeskKept view d theirs k l []
  unchanged k l f u = silent k l _ (on_disk k l.disk u.0 f) refl u.1

  -- a desk that has failed keeps its seat, book and votes
  fails : (k l : DeskState Disk) → DiskFine view d theirs k.votes l.disk → DeskFine view d theirs k → Fails k l
      → DeskKept view d theirs k l []
  fails k l g f u = silent k l _ (record { seat = f.seat; disk = g; safe = λ e. absurd (true≢false e) }) refl u

  justified_next : (k : DeskState Disk) (e : Entry) → DeskFine view d theirs k → MayCast k → InRange k.seat.position
      → Justified theirs (next_ballot k e ∷ k.votes)
  justified_next k e f m r = (casts d theirs k.votes k.seat k.book e f.seat m.1 r).justified

  pub pens_keep : {Why : Type 0} (rules : Rules Why) (k l : DeskState Disk) (e : Entry) (told : PenAnswer Why) (out : List Message)
      → DeskFine view d theirs k → Pens view rules k e told l out → DeskKept view d theirs k l out
  pens_keep rules k l e (PenAnswer.Penned settled) out f p =
      let cast = cast_keeps d theirs k.votes k.seat l.seat k.book e settled f.seat p.0.0.1 p.0.1.0 p.1.0 in
      grind (arith, cast, held, more)
  pens_keep rules k l e (PenAnswer.Refused why) out f p = rw p.2 (unchanged k l f p.1)
  pens_keep rules k l e PenAnswer.DeviceFailed out f p =
      let j = justified_next k e f p.0.0 p.0.1.0 in
      rw p.3 (fails k l (may_held k.votes l.disk (next_ballot k e) j p.1) f p.2)

  pub receives_keep : (k l : DeskState Disk) (m : Message) (told : ReceiveAnswer) (out : List Message)
      → DeskFine view d theirs k → TheirMessage d theirs m → Receives view k m told l out → DeskKept view d theirs k l out
  receives_keep k l m ReceiveAnswer.Failed out f t p = rw p.2 (unchanged k l f p.1)
  receives_keep k l (Message.Vote v) (ReceiveAnswer.Told h) out f t p = rw p.4 (silent k l _ (record {
    seat = hear_keeps d theirs k.votes k.seat l.seat k.book v h f.seat t p.1;
    disk = stays_fine k.votes k.disk l.disk p.2 f.disk;
    safe = λ _. stays_held k.votes k.disk l.disk p.2 (f.safe p.0);
  }) refl p.3)
  receives_keep k l (Message.Ask q) ReceiveAnswer.Asked out f t (r, u, h) = grind (arith, unchanged k l f u)
  receives_keep k l (Message.Ask q) ReceiveAnswer.DeviceFailed out f t p =
      rw p.3 (fails k l (stays_fine k.votes k.disk l.disk p.1 f.disk) f p.2)
  receives_keep k l _ _ out f t p = absurd p

  pub ticks_keep : (k : DeskState Disk) (out : List Message) → DeskFine view d theirs k → Ticks k out
      → DeskKept view d theirs k k out
  ticks_keep k out f h = grind (arith, votes_own, each_append, asks_own, same)

  -- a desk that was opened is fine if its votes are justified and its disk has them
  opens_fine : (k : DeskState Disk) → Justified theirs k.votes → Holds view k.disk k.votes → k ≡ opened d k.disk k.votes
      → DeskFine view d theirs k
  opens_fine k j h e = subst (DeskFine view d theirs) (sym e)
      (record { seat = opened_fine d theirs k.votes j k.disk; disk = held k.votes k.disk h; safe = λ _. h })

  pub creates_fine : (k : DeskState Disk) → Creates view d k → DeskFine view d theirs k
  creates_fine k c = grind (arith, opened_fine, held)

  -- a read has the votes that the desk had, and the opened desk has what is read
  pub opened_keeps : {Why : Type 0} (rules : Rules Why) (votes : List Ballot) (disk : Disk) (k : DeskState Disk)
      → Justified theirs votes → ShowsMore theirs votes (view.reads disk) → Opens view rules d disk (Opening.Opened k)
      → DeskFine view d theirs k × Within votes k.votes
  opened_keeps rules votes disk k j s o =
      let found = shows_votes theirs votes k.votes (view.reads disk) o.0 s in
      (opens_fine k (more_justified theirs votes k.votes j found) o.2 o.3, more_within theirs votes k.votes found)

  pub not_opened_keeps : {Why : Type 0} (rules : Rules Why) (votes : List Ballot) (disk left : Disk) (why : OpenRefusal)
      → DiskFine view d theirs votes disk → Opens view rules d disk (Opening.NotOpened why left)
      → DiskFine view d theirs votes left
  not_opened_keeps rules votes disk left why f o = grind (arith, synced_fine, may_sync_fine)

-- a desk stays fine as the other desk casts more votes
pub desk_grows : {Disk : Type 0} (view : FileView Disk) (d : DeskId) (theirs more : List Ballot) (k : DeskState Disk)
    → Within theirs more → DeskFine view d theirs k → DeskFine view d more k
desk_grows view d theirs more k g f = grind (arith, seat_grows d k.votes theirs more k.seat k.book g f.seat, shows_grows)
