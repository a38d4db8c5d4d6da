-- How a board goes on in calm moments; and that it left a round only if both desks differed there.
use Rattle.std.proofs.Common.{◌≡◌, ◌≢◌, ℕ, Some, List, [], ◌∷◌, sym, ap, ◌∙◌, subst, arith}
use Rattle.notation.specs.declared.entry.Entry.{Entry}
use Rattle.agree_core.specs.declared.{messages.DeskId.DeskId, messages.Message.Message, messages.Vote.Vote, seat.Heard.Heard}
use Rattle.agree_core.specs.declared.messages.DeskId.TheVariants.{A, B}
use Rattle.agree_core.specs.Ballots.{AllVotes, In, ballot_at, ballot_of, votes_by}
use Rattle.agree_core.specs.Boards.{BoardAnswer, BoardReceives, BoardState, fresh_board}
use Rattle.agree_core.specs.Books.{Rules}
use Rattle.agree_core.specs.Keeping.{BoardFine, Each, MessageFine, NotedFine}
use Rattle.agree_core.specs.Readers.{Listens, ReaderState, noted_of, other}
use Rattle.headline.specs.declared.{event.Event.Event, event.Station.Station, version.FileVersion.FileVersion}
use Rattle.headline.specs.Answers.{Answer}
use Rattle.headline.specs.BoardSteps.{AtBoard}
use Rattle.headline.specs.Configurations.{Configuration, Node, all_votes, board_at, with_node}
use Rattle.headline.specs.Runs.{Begins, Moment, Run, last_of}
use Rattle.headline.specs.Setting.{Setting}
use Rattle.headline.specs.Steps.{StepAt}
use Rattle.headline.proofs.Heeding.{noting_at}
use Rattle.headline.proofs.Given.{given_fine}
use Rattle.headline.proofs.BoardKeeping.{board_fine_at, board_in, board_set, each_other, fresh_boards_are}
use Rattle.headline.proofs.Keeping.{Fine, Grows, run_keeps, step_at_keeps}
use Rattle.progress.proofs.Rounds.{DifferedIn, RoundsFine, one_round_more, rounds_grow}

abbrev pub BoardRounds : AllVotes → BoardState → Type 0
BoardRounds v k = RoundsFine v k.reader.position

differed_by : (v : AllVotes) (d : DeskId) (place round : ℕ) (e f : Entry) → In (ballot_at place round e) (votes_by v d)
    → In (ballot_at place round f) (votes_by v (other d)) → e ≢ f → DifferedIn v place round
differed_by v A place round e f i j n = (e, f, i, j, n)
differed_by v B place round e f i j n = (f, e, j, i, λ q. n (sym q))

listens_rounds : (v : AllVotes) (r t : ReaderState) (x : Vote) (h : Heard)
    → ((d : DeskId) → NotedFine (votes_by v d) r.position (noted_of r d)) → In (ballot_of x) (votes_by v x.desk)
    → RoundsFine v r.position → Listens r x h t → RoundsFine v t.position
listens_rounds v r t x Heard.Differ noted i f c =
    let here : In (record { at = r.position; entry = x.entry }) (votes_by v x.desk) = rw (← c.0) i in
    let there = subst (NotedFine (votes_by v (other x.desk)) r.position) c.2.1 (noted (other x.desk)) in
    rw c.3 (one_round_more v r.position f (differed_by v x.desk r.position.place r.position.round x.entry c.2.0 here there c.2.2))
listens_rounds v r t x Heard.Agreed noted i f c = λ round less. absurd (grind arith)
listens_rounds v r t x Heard.Noted noted i f c = rw (c.3, noting_at r x.desk x.entry) f
listens_rounds v r t x h noted i f c = let same : t ≡ r = grind arith in rw same f

receives_rounds : {Why : Type 0} → (rules : Rules Why) (v : AllVotes) (k l : BoardState) (m : Message) (told : BoardAnswer) → BoardFine v k → MessageFine v m
    → BoardRounds v k → BoardReceives rules k m told l → BoardRounds v l
receives_rounds rules v k l (Message.Vote x) (BoardAnswer.Told h) f i b p = listens_rounds v k.reader l.reader x h f.noted i b p.0
receives_rounds rules v k l (Message.Vote x) (BoardAnswer.BadVotes place) f i b p = rw p.3 b
receives_rounds rules v k l (Message.Ask q) BoardAnswer.Asked f i b p = rw p b
receives_rounds rules v k l _ _ f i b p = absurd p

fresh_rounds : (v : AllVotes) → BoardRounds v fresh_board
fresh_rounds v round less = absurd (omega arith)

pub boards_set : {Disk : Type 0} → (w : Configuration Disk) (d : DeskId) (y : Node Disk) (out : List Message) → (with_node w d y out).boards ≡ w.boards
boards_set w h1 y out = grind arith

module _ {Disk Why : Type 0} (s : Setting Disk Why) where
  abbrev pub AllRounds : Configuration Disk → Type 0
  AllRounds w = Each (BoardRounds (all_votes w)) w.boards

  at_board_rounds : (v : AllVotes) (sent : List Message) (event : Event) (k l : BoardState) (answer : Answer Why) (out : List Message) → Each (MessageFine v) sent
      → BoardFine v k → BoardRounds v k → AtBoard s sent event k answer l out → BoardRounds v l
  at_board_rounds v sent (Event.Give n t) k l answer out f b r p = receives_rounds s.rules v k l p.0 p.1 b (given_fine v sent n p.0 f p.2) r p.3
  at_board_rounds v sent (Event.Tick t) k l answer out f b r p = rw p.2 r
  at_board_rounds v sent h2 k l answer out f b r p = grind (arith, fresh_rounds)

  step_rounds : (w : Configuration Disk) (event : Event) (t : Station) (answer : Answer Why) (new : Configuration Disk) → Fine s w → AllRounds w
      → Grows s w new → StepAt s w event t answer new → AllRounds new
  step_rounds w event (Station.Desk d) answer new f r g p =
      let same : new.boards ≡ w.boards = ap (λ (z : Configuration Disk). z.boards) p.3 ∙ boards_set w d p.0 p.1 in
      subst (Each (BoardRounds (all_votes new))) (sym same) (each_other (BoardRounds (all_votes w)) (BoardRounds (all_votes new)) (λ k. rounds_grow (all_votes w) (all_votes new) g k.reader.position) w.boards r)
  step_rounds w event (Station.Board n) answer new f r g p =
      let v = all_votes w in
      let k = at_board_rounds v w.sent event p.0 p.1 answer p.2 f.on_sent (board_fine_at v w.boards n p.0 p.3 f.on_boards) (board_in (BoardRounds v) w.boards n p.0 p.3 r) p.4 in
      subst (λ (z : Configuration Disk). AllRounds z) (sym p.5) (board_set (BoardRounds v) w.boards n p.1 k r)

  pub run_rounds : (w : Configuration Disk) (ms : List (Moment Disk Why)) → Fine s w → AllRounds w → Run s w ms → AllRounds (last_of w ms)
  run_rounds w [] f r p = r
  run_rounds w (m ∷ ms) f r p = grind (arith, run_keeps, step_rounds, step_at_keeps, (run_rounds w ms f r p.0))

  pub begins_rounds : (version : FileVersion) (n : ℕ) (w : Configuration Disk) → Begins s version n w → AllRounds w
  begins_rounds version n w b = subst (Each (BoardRounds (all_votes w))) (sym b.boards_are_fresh) (fresh_boards_are (BoardRounds (all_votes w)) (fresh_rounds (all_votes w)) n)

  pub rounds_of : (w : Configuration Disk) (n : ℕ) (k : BoardState) → AllRounds w → board_at w.boards n ≡ Some k → BoardRounds (all_votes w) k
  rounds_of w n k r e = board_in (BoardRounds (all_votes w)) w.boards n k e r
