-- No event of a run meets two votes of one desk for a position, votes that make no book, or an unsound file.
use Rattle.std.proofs.Common.{◌≡◌, ◌≢◌, ℕ, Bool, Option, Some, None, List, [], ◌∷◌, ◌++◌, length, sym, ap, ◌∙◌, subst, inl, inr, arith, ⊎_elim}
use Rattle.std.proofs.Common.{append-nil, append_assoc, length-append}
use Rattle.notation.specs.declared.entry.Entry.{Entry}
use Rattle.agree_core.specs.declared.{messages.DeskId.DeskId, messages.Message.Message, messages.Vote.Vote, seat.Heard.Heard}
use Rattle.agree_core.specs.Agreed.{AllSettled, BeginsWith}
use Rattle.agree_core.specs.Ballots.{AllJustified, AllVotes, Ballot, In, Justified, ballot_of, votes_by}
use Rattle.agree_core.specs.Ballots as ballots
use Rattle.agree_core.specs.Boards.{BoardAnswer, BoardReceives, BoardState}
use Rattle.agree_core.specs.Books.{AllTaken, Rules, book_of, closing, voted_list}
use Rattle.agree_core.specs.Desks.{DeskState, ReceiveAnswer, Receives}
use Rattle.agree_core.specs.Openings.{Opening, Opens}
use Rattle.agree_core.specs.Positions.{position_of}
use Rattle.agree_core.specs.Readers.{Listens, ReaderState, other}
use Rattle.agree_core.specs.Seats.{Hears, SeatState}
use Rattle.agree_core.proofs.FileBooks.{AllBoth, book_agreed, book_long}
use Rattle.agree_core.proofs.Order.{in_sequence, one_vote}
use Rattle.agree_core.proofs.Settling.{one_book}
use Rattle.agree_core.proofs.Taken.{not_both, taken_push}
use Rattle.headline.specs.declared.{event.Event.Event, event.Station.Station, version.FileVersion.FileVersion}
use Rattle.headline.specs.Setting.{Setting}
use Rattle.headline.specs.Configurations.{Down, Node, Configuration, node, all_votes}
use Rattle.headline.specs.Events.{station_of}
use Rattle.headline.specs.Answers.{Answer, board_told}
use Rattle.headline.specs.DeskSteps.{AtDesk}
use Rattle.headline.specs.BoardSteps.{AtBoard}
use Rattle.headline.specs.Steps.{StepAt}
use Rattle.headline.specs.Runs.{Begins, Moment, Run, last_of}
use Rattle.headline.specs.Besides.{IsSoundAnswer, AtEachEvent}
use Rattle.headline.specs.DeskAnswers.{AfterOpen, AfterReceive}
use Rattle.agree_core.specs.Keeping.{BoardFine, MessageFine, NotedFine, SeatFine}
use Rattle.agree_core.proofs.Both.{both_grow, both_settled, both_turned, same}
use Rattle.headline.proofs.BoardKeeping.{board_fine_at}
use Rattle.headline.proofs.Given.{given_fine}
use Rattle.headline.proofs.Keeping.{Fine, ProcessFine, all_justified, begins_fine, run_keeps, running, node_fine, votes_at}
use Rattle.headline.proofs.PennedVotes.{BothHold, HeldBy, PensKeep, begins_hold, step_holds}

-- the rules took the voted list after each vote
abbrev pub Lawful : {Why : Type 0} → Rules Why → List Ballot → Type 0
Lawful rules [] = Unit {0}
Lawful rules (b ∷ bs) = AllTaken rules [] (voted_list (b ∷ bs)) × Lawful rules bs

lawful_list : {Why : Type 0} (rules : Rules Why) (bs : List Ballot) → Lawful rules bs → AllTaken rules [] (voted_list bs)
lawful_list rules bs h0 = grind arith

-- the rules take the book that a file shows
taken_book : {Why : Type 0} (rules : Rules Why) (b : Ballot) (bs : List Ballot) → Lawful rules bs → AllTaken rules [] (book_of (b ∷ bs))
taken_book rules b [] h = tt
taken_book rules b (c ∷ rest) h = grind (arith, taken_book rules c rest h.1)

-- if all entries are taken, the last one is
taken_last : {Why : Type 0} (rules : Rules Why) (book xs : List Entry) (e : Entry) → AllTaken rules book (xs ++ e ∷ []) → rules (book ++ xs) e ≡ None
taken_last rules book [] e h = rw append-nil h.0
taken_last rules book (x ∷ xs) e h = rw (sym (append_assoc book (x ∷ []) xs)) (taken_last rules (book ++ x ∷ []) xs e h.1)

-- when a vote of a file was cast, its entry was taken after a book as long as its place, whose entries both desks voted for
pub taken_at : {Why : Type 0} (rules : Rules Why) (theirs bs : List Ballot) → Justified theirs bs → Lawful rules bs → (b : Ballot) → In b bs
    → (book : List Entry) × AllBoth bs theirs 0 book × (length book ≡ b.at.place) × (rules book b.entry ≡ None)
taken_at rules theirs [] j l b i = absurd i
taken_at rules theirs (x ∷ xs) j l b (inl e) = grind (arith, book_long, in_sequence, taken_last, book_agreed)
taken_at rules theirs (x ∷ xs) j l b (inr i) = grind (arith, both_grow, (taken_at rules theirs xs j.2 l.1 b i))

pub same_length : (xs ys : List Entry) → BeginsWith ys xs → length xs ≡ length ys → xs ≡ ys
same_length xs ys ([], e) size = sym (append-nil xs) ∙ e
same_length xs ys (r ∷ rs, e) size = let long = ap length e in absurd (omega (arith, length-append xs (r ∷ rs)))

-- two books of equal length, whose entries are settled by some of these votes, are equal
pub one_of_length : (v a b : AllVotes) → AllJustified v → (xs ys : List Entry) → ballots.VotesGrow a v → ballots.VotesGrow b v
    → AllSettled a 0 xs → AllSettled b 0 ys → length xs ≡ length ys → xs ≡ ys
one_of_length v a b j xs ys g h p q size =
    ⊎_elim (λ (z : BeginsWith ys xs). same_length xs ys z size) (λ (z : BeginsWith xs ys). sym (same_length ys xs z (sym size))) (one_book v j a b xs ys g h p q)

one_both : (v : AllVotes) (xs ys : List Entry) → AllJustified v → AllBoth v.a v.b 0 xs → AllBoth v.a v.b 0 ys → length xs ≡ length ys → xs ≡ ys
one_both v xs ys j p q size = one_of_length v v v j xs ys (same v.a, same v.b) (same v.a, same v.b) (both_settled v j 0 xs p) (both_settled v j 0 ys q) size

-- a desk has one vote for a position
two_entries : (theirs votes : List Ballot) (x : Option Entry) (v : Vote) (e : Entry) (at : _) → Justified theirs votes → NotedFine votes at x → x ≡ Some e → In (ballot_of v) votes
    → position_of v ≡ at → v.entry ≢ e → ⊥
two_entries theirs votes x v e at h0 h1 h2 h3 h4 h5 = grind (arith, one_vote)

module _ {Disk Why : Type 0} (s : Setting Disk Why) where
  pub justified_of : (w : Configuration Disk) (d : DeskId) → Fine s w → Justified (votes_by (all_votes w) (other d)) (votes_by (all_votes w) d)
  justified_of w d h0 = grind arith

  pub justified_other : (w : Configuration Disk) (d : DeskId) → Fine s w → Justified (votes_by (all_votes w) d) (votes_by (all_votes w) (other d))
  justified_other w d h0 = grind arith

  -- each pen is lawful
  lawful_pens : (w : Configuration Disk) (event : Event) (answer : Answer Why) → Fine s w → PensKeep s (λ d. Lawful s.rules) w event answer
  lawful_pens w event answer h0 = grind (arith, taken_book, taken_push)

  pub lawful_run : (version : FileVersion) (n : ℕ) (w : Configuration Disk) (ms : List (Moment Disk Why)) → Begins s version n w → Run s w ms → BothHold s (λ d. Lawful s.rules) (last_of w ms)
  lawful_run version n w [] e r = begins_hold s (λ d. Lawful s.rules) (λ d. tt) version n w e
  lawful_run version n w (m ∷ ms) e r =
      step_holds s (λ d. Lawful s.rules) (last_of w ms) m.event m.answer m.after
      (lawful_pens (last_of w ms) m.event m.answer (run_keeps s w ms (begins_fine s version n w e) r.0)) (lawful_run version n w ms e r.0) r.1

  pub lawful_votes : (w : Configuration Disk) (d : DeskId) → BothHold s (λ d. Lawful s.rules) w → Lawful s.rules (votes_by (all_votes w) d)
  lawful_votes w d l = let h = l d in rw (votes_at s w d) h.of_votes

  two_at_desk : (w : Configuration Disk) (d : DeskId) (k : DeskState Disk) (v : Vote) (t : SeatState) → Fine s w → SeatFine d k.votes (votes_by (all_votes w) (other d)) k.seat k.book
      → MessageFine (all_votes w) (Message.Vote v) → Hears k.seat v Heard.TwoVotes t → ⊥
  two_at_desk w d k v t h0 h1 h2 h3 = grind (arith, two_entries)

  turned : (w : Configuration Disk) (d : DeskId) (book : List Entry) → AllBoth (votes_by (all_votes w) d) (votes_by (all_votes w) (other d)) 0 book → AllBoth (all_votes w).a (all_votes w).b 0 book
  turned w d book h = grind (arith, both_turned)

  -- the rules take a vote's entry after the book of its place, whose entries both desks voted for
  pub voted_taken : (w : Configuration Disk) (d : DeskId) (b : Ballot) (book : List Entry) → Fine s w → BothHold s (λ d. Lawful s.rules) w → In b (votes_by (all_votes w) d)
      → AllBoth (all_votes w).a (all_votes w).b 0 book → length book ≡ b.at.place → s.rules book b.entry ≡ None
  voted_taken w d b book f l i both size =
      let g = taken_at s.rules (votes_by (all_votes w) (other d)) (votes_by (all_votes w) d) (justified_of w d f) (lawful_votes w d l) b i in
      rw (one_both (all_votes w) book g.0 (all_justified s w f) both (turned w d g.0 g.1) (size ∙ sym g.2)) g.3

  receive_sound : (event : Event) (w : Configuration Disk) (d : DeskId) (x : Node Disk) (k l : DeskState Disk) (m : Message) (told : ReceiveAnswer) (out : List Message)
      (answer : Answer Why) (y : Node Disk) → Fine s w → SeatFine d k.votes (votes_by (all_votes w) (other d)) k.seat k.book → MessageFine (all_votes w) m
      → Receives (s.view d x.version) k m told l out → AfterReceive (s.view d x.version) x told l out answer y → IsSoundAnswer event answer
  receive_sound event w d x k l m told out answer y h0 h1 h2 h3 h4 = grind (arith, two_at_desk)

  open_sound : (event : Event) (d : DeskId) (theirs : List Ballot) (x : Node Disk) (votes : List Ballot) (old : Disk) (opening : Opening Disk) (answer : Answer Why) (y : Node Disk)
      → ProcessFine s x.version d theirs (Down votes old) → HeldBy s (Lawful s.rules) (s.view d x.version) votes old → Opens (s.view d x.version) s.rules d old opening
      → AfterOpen (s.view d x.version) x votes opening answer y → IsSoundAnswer event answer
  open_sound event d theirs x votes old opening answer y h0 h1 h2 h3 = grind (arith, lawful_list, not_both)

  -- the answer to an event at a desk is sound
  desk_sound : (w : Configuration Disk) (d : DeskId) (event : Event) (answer : Answer Why) (y : Node Disk) (out : List Message) → Fine s w → BothHold s (λ d. Lawful s.rules) w
      → AtDesk s w.sent d event (node w d) answer y out → IsSoundAnswer event answer
  desk_sound w d (Event.Give n t) answer y out f l p =
      let fine = running s (node w d).version d (votes_by (all_votes w) (other d)) (node w d).process p.0 p.4 (node_fine s w d f) in
      receive_sound (Event.Give n t) w d (node w d) p.0 p.1 p.2 p.3 out answer y f fine.seat (given_fine (all_votes w) w.sent n p.2 f.on_sent p.5) p.6 p.7
  desk_sound w d h2 answer y out f l p = grind (arith, open_sound)

  board_takes : (w : Configuration Disk) (k : BoardState) (v : Vote) (reader : ReaderState) → Fine s w → BothHold s (λ d. Lawful s.rules) w → BoardFine (all_votes w) k
      → In (ballot_of v) (votes_by (all_votes w) v.desk) → Listens k.reader v Heard.Agreed reader → s.rules k.book v.entry ≡ None
  board_takes w k v reader f l b i h = voted_taken w v.desk (ballot_of v) k.book f l i b.both (b.long ∙ sym (ap (λ p. p.place) h.0))

  board_told_sound : (event : Event) (w : Configuration Disk) (k l : BoardState) (m : Message) (told : BoardAnswer) → Fine s w → BothHold s (λ d. Lawful s.rules) w → BoardFine (all_votes w) k
      → MessageFine (all_votes w) m → BoardReceives s.rules k m told l → IsSoundAnswer {Why = Why} event (board_told told)
  board_told_sound event w k l m told f h b i p = grind (arith, board_takes, two_entries)

  board_sound : (w : Configuration Disk) (event : Event) (k : BoardState) (answer : Answer Why) (l : BoardState) (out : List Message) → Fine s w → BothHold s (λ d. Lawful s.rules) w
      → BoardFine (all_votes w) k → AtBoard s w.sent event k answer l out → IsSoundAnswer event answer
  board_sound w (Event.Give n t) k answer l out f h b p =
      subst (IsSoundAnswer (Event.Give n t)) (sym p.4) (board_told_sound (Event.Give n t) w k l p.0 p.1 f h b (given_fine (all_votes w) w.sent n p.0 f.on_sent p.2) p.3)
  board_sound w h1 k answer l out f h b p = grind arith

  station_sound : (w : Configuration Disk) (event : Event) (t : Station) (answer : Answer Why) (new : Configuration Disk) → Fine s w → BothHold s (λ d. Lawful s.rules) w
      → StepAt s w event t answer new → IsSoundAnswer event answer
  station_sound w event (Station.Desk d) answer new f l p = desk_sound w d event answer p.0 p.1 f l p.2
  station_sound w event (Station.Board n) answer new f l p = board_sound w event p.0 answer p.1 p.2 f l (board_fine_at (all_votes w) w.boards n p.0 p.3 f.on_boards) p.4

  pub sound_answers : (version : FileVersion) (n : ℕ) (w : Configuration Disk) (ms : List (Moment Disk Why)) → Begins s version n w → Run s w ms
      → AtEachEvent w ms (λ v m. IsSoundAnswer m.event m.answer)
  sound_answers version n w [] e r = tt
  sound_answers version n w (m ∷ ms) e r =
      let fine = run_keeps s w ms (begins_fine s version n w e) r.0 in
      (sound_answers version n w ms e r.0, station_sound (last_of w ms) m.event (station_of m.event) m.answer m.after fine (lawful_run version n w ms e r.0) r.1)
