-- No ask is for a position that the other desk has passed without voting there.
use Rattle.std.proofs.Common.{◌≡◌, ℕ, Bool, true, false, List, [], ◌∷◌, ◌++◌, sym, ap, ◌∙◌, subst, arith}
use Rattle.std.specs.Prelude.{◌&&◌, not}
use Rattle.std.proofs.lemmas.Bool.Decides.{nat_tests}
use Rattle.notation.specs.declared.entry.Entry.{Entry}
use Rattle.agree_core.specs.declared.{messages.DeskId.DeskId, messages.Message.Message, position.Position.Position}
use Rattle.agree_core.specs.declared.messages.DeskId.TheVariants.{A, B}
use Rattle.agree_core.specs.Agreed.{AllBoth}
use Rattle.agree_core.specs.Ballots.{AllVotes, Ballot, In, VotesGrow, votes_by}
use Rattle.agree_core.specs.Boards.{BoardState}
use Rattle.agree_core.specs.Desks.{DeskState}
use Rattle.agree_core.specs.Keeping.{Each, SeatFine}
use Rattle.agree_core.specs.LostLines.{is_before, is_voted}
use Rattle.agree_core.specs.Positions.{Before}
use Rattle.agree_core.specs.Readers.{other}
use Rattle.agree_core.specs.Seats.{SeatState}
use Rattle.agree_core.proofs.Both.{both_turned}
use Rattle.headline.specs.declared.{event.Event.Event, event.Station.Station, version.FileVersion.FileVersion}
use Rattle.headline.specs.Answers.{Answer}
use Rattle.headline.specs.BoardSteps.{AtBoard}
use Rattle.headline.specs.Configurations.{Configuration, Node, Running, all_votes, node}
use Rattle.headline.specs.DeskSteps.{AtDesk}
use Rattle.headline.specs.Runs.{Begins, Moment, Run, last_of}
use Rattle.headline.specs.Setting.{Setting}
use Rattle.headline.specs.Steps.{StepAt}
use Rattle.headline.proofs.BoardKeeping.{each_append, each_other, item_at}
use Rattle.headline.proofs.Keeping.{Fine, Grows, all_justified, begins_fine, run_keeps, step_at_keeps}
use Rattle.progress.specs.Progress.{NonePassedOver}
use Rattle.progress.proofs.Another.{at_itself}
use Rattle.progress.proofs.Boards.{AllRounds, begins_rounds, rounds_of, run_rounds}
use Rattle.progress.proofs.CalmRuns.{sent_set}
use Rattle.progress.proofs.Rounds.{RoundsFine, passed, rounds_grow, rounds_of_seat}
use Rattle.progress.proofs.Settled.{fine_seat}

-- the rounds of a desk's seat
seat_rounds : (v : AllVotes) (d : DeskId) (s : SeatState) (book : List Entry) → SeatFine d (votes_by v d) (votes_by v (other d)) s book → RoundsFine v s.position
seat_rounds v A s book f = rounds_of_seat A v.a v.b s book f
seat_rounds v B s book f = λ round less. let h = rounds_of_seat B v.b v.a s book f round less in (h.1, h.0, h.3, h.2, λ e. h.4 (sym e))

seat_both : (v : AllVotes) (d : DeskId) (s : SeatState) (book : List Entry) → SeatFine d (votes_by v d) (votes_by v (other d)) s book → AllBoth v.a v.b 0 book
seat_both v h1 s book f = grind (arith, both_turned)

-- an ask is for a position that a station was at
abbrev AskFine : AllVotes → Message → Type 0
AskFine v (Message.Vote x) = Unit {0}
AskFine v (Message.Ask q) = RoundsFine v (record { place = q.place; round = q.round })

ask_grows : (v w : AllVotes) → VotesGrow v w → (m : Message) → AskFine v m → AskFine w m
ask_grows v w g (Message.Vote x) h = tt
ask_grows v w g (Message.Ask q) h = rounds_grow v w g (record { place = q.place; round = q.round }) h

module _ (v : AllVotes) where
  module _ {Disk Why : Type 0} (s : Setting Disk Why) where
    at_desk_ask : (sent : List Message) (d : DeskId) (event : Event) (x y : Node Disk) (answer : Answer Why) (out : List Message)
        → ((k : DeskState Disk) → x.process ≡ Running k → RoundsFine v k.seat.position) → AtDesk s sent d event x answer y out → Each (AskFine v) out
    at_desk_ask sent d h2 x y answer out r p = grind arith

    at_board_ask : (sent : List Message) (event : Event) (k l : BoardState) (answer : Answer Why) (out : List Message) → RoundsFine v k.reader.position
        → AtBoard s sent event k answer l out → Each (AskFine v) out
    at_board_ask sent h1 k l answer out r p = grind arith

module _ {Disk Why : Type 0} (s : Setting Disk Why) where
  abbrev AllAsks : Configuration Disk → Type 0
  AllAsks w = Each (AskFine (all_votes w)) w.sent

  -- the asks already sent, and those handed out
  more_asks : (w new : Configuration Disk) (out : List Message) → Grows s w new → new.sent ≡ w.sent ++ out → AllAsks w → Each (AskFine (all_votes w)) out → AllAsks new
  more_asks w new out g e h k = grind (arith, ask_grows, each_append, each_other)

  step_asks : (w : Configuration Disk) (event : Event) (t : Station) (answer : Answer Why) (new : Configuration Disk) → Fine s w → AllRounds s w → AllAsks w
      → Grows s w new → StepAt s w event t answer new → AllAsks new
  step_asks w event (Station.Desk d) answer new f r a g p =
      let rounds : (k : DeskState Disk) → (node w d).process ≡ Running k → RoundsFine (all_votes w) k.seat.position =
      λ k runs. seat_rounds (all_votes w) d k.seat k.book (fine_seat s w f d k runs).0 in
      more_asks w new p.1 g (ap (λ (z : Configuration Disk). z.sent) p.3 ∙ sent_set w d p.0 p.1) a (at_desk_ask (all_votes w) s w.sent d event (node w d) p.0 answer p.1 rounds p.2)
  step_asks w event (Station.Board n) answer new f r a g p =
      more_asks w new p.2 g (ap (λ (z : Configuration Disk). z.sent) p.5) a
      (at_board_ask (all_votes w) s w.sent event p.0 p.1 answer p.2 (rounds_of s w n p.0 r p.3) p.4)

  run_asks : (w : Configuration Disk) (ms : List (Moment Disk Why)) → Fine s w → AllRounds s w → AllAsks w → Run s w ms → AllAsks (last_of w ms)
  run_asks w [] f r a p = a
  run_asks w (m ∷ ms) f r a p = grind (arith, run_keeps, step_asks, run_rounds, step_at_keeps, (run_asks w ms f r a p.0))

  before_when : (p q : Position) → is_before p q ≡ true → Before p q
  before_when p q e = grind (arith, nat_tests, e)

  voted_when : (votes : List Ballot) (p : Position) (e : Entry) → In (record { at = p; entry = e }) votes → is_voted votes p ≡ true
  voted_when [] p e i = absurd i
  voted_when (b ∷ bs) p e i = grind (arith, at_itself, (voted_when bs p e))

  not_passed_over : (a b : Bool) → (a ≡ true → b ≡ true) → (a && not b) ≡ false
  not_passed_over a b h = grind arith

  pub none_passed_over : (version : FileVersion) (boards : ℕ) (w : Configuration Disk) (ms : List (Moment Disk Why)) → Begins s version boards w → Run s w ms
      → NonePassedOver (last_of w ms)
  none_passed_over version boards w ms begins run d k n q runs get =
      let now = last_of w ms in
      let v = all_votes now in
      let fine = begins_fine s version boards w begins in
      let f = run_keeps s w ms fine run in
      let first : AllAsks w = subst (Each (AskFine (all_votes w))) (sym begins.nothing_sent) tt in
      let asks = run_asks w ms fine (begins_rounds s version boards w begins) first run in
      let p : Position = record { place = q.place; round = q.round } in
      let g = fine_seat s now f d k runs in
      not_passed_over (is_before p k.seat.position) (is_voted k.votes p) (λ e.
      let voted = passed v (all_justified s now f) p k.seat.position k.book (seat_both v d k.seat k.book g.0) g.0.long (item_at (AskFine v) now.sent n _ get asks)
      (seat_rounds v d k.seat k.book g.0) (before_when p k.seat.position e) in
      let mine = voted d in
      voted_when k.votes p mine.0 (subst (In (record { at = p; entry = mine.0 })) (sym g.1) mine.1))
