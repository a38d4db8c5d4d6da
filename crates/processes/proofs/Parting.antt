-- No board sees that a desk's file lacks lines while both desks' files are kept.
use Rattle.std.proofs.Common.{arith, ◌≡◌, ℕ, Bool, true, false, not, ◌&&◌, ◌||◌, nat_eq, nat_lt, List, [], ◌∷◌, ◌++◌, Option, Some, None, Result, Ok, refl, sym, ap, ap₂, ◌<◌, subst, length}
use Rattle.std.specs.Prelude.{◌==◌, if◌then◌else◌}
use Rattle.std.proofs.lemmas.Bool.Decides.{nat_tests}
use Rattle.std.proofs.lemmas.Slice.Eq.{bytes_eq-Decides}
use Rattle.notation.specs.declared.entry.Entry.{Entry}
use Rattle.notation.specs.Code.{code}
use Rattle.notation.specs.Written.{IsEntry}
use Rattle.notation.proofs.Decoded.{code_once}
use Rattle.corrections.specs.Refusal.{book_refusal}
use Rattle.corrections.specs.declared.refusal.Refusal.{Refusal}
use Rattle.agree_core.specs.declared.{messages.DeskId.DeskId, messages.Message.Message, messages.Vote.Vote, position.Position.Position, seat.Heard.Heard}
use Rattle.agree_core.specs.declared.messages.DeskId.TheVariants.{A, B}
use Rattle.agree_core.specs.Ballots.{AllJustified, AllVotes, Ballot, In, VotesGrow, ballot_at, ballot_of, votes_by}
use Rattle.agree_core.specs.Boards.{BoardState}
use Rattle.agree_core.specs.Keeping.{BoardFine, Each, MessageFine, NotedFine}
use Rattle.agree_core.specs.LostLines.{is_at}
use Rattle.agree_core.specs.Positions.{position_of}
use Rattle.agree_core.specs.Readers.{ReaderState, noted_of, other}
use Rattle.agree_core.proofs.Order.{one_vote}
use Rattle.agree_core.proofs.Settling.{none_later}
use Rattle.board.specs.Rounds.{cast_by, is_against, is_alike, is_another, is_later, parts, whole_round, with_round}
use Rattle.board.specs.Takes.{Takes}
use Rattle.board.specs.declared.{refusal.BoardRefusal.BoardRefusal, witness.Round.Round}
use Rattle.vote_store.specs.Record.{entry_coded}
use Rattle.wire.specs.Layout.{Says, body_in}
use Rattle.wire.specs.declared.what.What.{What}
use Rattle.headline.specs.Configurations.{Configuration, all_votes, board_at}
use Rattle.headline.specs.Setting.{Setting}
use Rattle.headline.specs.Runs.{Begins}
use Rattle.headline.specs.declared.version.FileVersion.{FileVersion}
use Rattle.headline.proofs.BoardKeeping.{board_fine_at, each_append, each_other, item_at}
use Rattle.headline.proofs.Given.{given_fine}
use Rattle.headline.proofs.Keeping.{Fine, all_justified}
use Rattle.progress.specs.Progress.{AllAreEntries}
use Rattle.progress.proofs.GoneOn.{run_grows}
use Rattle.live.specs.Boards as boards
use Rattle.live.specs.Boards.{BoardCall, BoardStep, rounds_after}
use Rattle.live.proofs.HiddenLemmas.{entry_of_vote}
use Rattle.processes.specs.Happenings.{BoardBegun, BoardCalled, BoardCame, Flow, Happening, WasSent, after}
use Rattle.processes.specs.Parting.{NoVoteParts, rounds_at, rounds_called}
use Rattle.processes.proofs.Flowing.{begins_calm, fine, stays_calm}
use Rattle.processes.proofs.FlowSteps.{happening}

-- both desks have cast these votes
abbrev RoundFine : AllVotes → Round → Type 0
RoundFine v r = In (record { at = r.at; entry = r.a }) v.a × In (record { at = r.at; entry = r.b }) v.b

-- ---- both votes of a round heard whole were cast

round_grows : (v u : AllVotes) → VotesGrow v u → (r : Round) → RoundFine v r → RoundFine u r
round_grows v u g r h = (g.0 _ h.0, g.1 _ h.1)

with_fine : (v : AllVotes) (rounds : List Round) (o : Option Round) → Each (RoundFine v) rounds → ((r : Round) → o ≡ Some r → RoundFine v r)
    → Each (RoundFine v) (with_round rounds o)
with_fine v rounds None h k = h
with_fine v rounds (Some r) h k = turn (nat_lt (length rounds) 16384)
  where
    turn : (b : Bool) → Each (RoundFine v) (if b then rounds ++ r ∷ [] else rounds)
    turn true = each_append (RoundFine v) rounds (r ∷ []) h (k r refl, tt)
    turn false = h

-- the vote that makes a round whole, and the other desk's noted vote
whole_fine : (v : AllVotes) (reader : ReaderState) (x : Vote) (e : Entry) → ((d : DeskId) → NotedFine (votes_by v d) reader.position (noted_of reader d))
    → In (ballot_of x) (votes_by v x.desk) → position_of x ≡ reader.position → noted_of reader x.desk ≡ None → noted_of reader (other x.desk) ≡ Some e
    → (r : Round) → whole_round reader (Some x.entry) ≡ Some r → RoundFine v r
whole_fine v reader x e noted i at none some r is = by_desk x.desk refl
  where
    by_desk : (d : DeskId) → d ≡ x.desk → RoundFine v r
    by_desk A same = grind (arith, noted A, noted B)
    by_desk B same = grind (arith, noted A, noted B)

module _ (game innings : ℕ) (v : AllVotes) (k l : BoardState) (fine : BoardFine v k) where
  heard_fine : (bytes : List ℕ) (x : Vote) (e : Entry) (rounds : List Round) → Says game bytes (Message.Vote x) → In (ballot_of x) (votes_by v x.desk)
      → position_of x ≡ k.reader.position → noted_of k.reader x.desk ≡ None → noted_of k.reader (other x.desk) ≡ Some e → Each (RoundFine v) rounds
      → Each (RoundFine v) (with_round rounds (whole_round k.reader (entry_coded (body_in bytes))))
  heard_fine bytes x e rounds says i at none some h =
      rw (entry_of_vote game bytes x says) (with_fine v rounds (whole_round k.reader (Some x.entry)) h (whole_fine v k.reader x e fine.noted i at none some))

  call_fine : (bytes : List ℕ) (answer : Result What BoardRefusal) (rounds : List Round) → ((m : Message) → Says game bytes m → MessageFine v m)
      → Takes (book_refusal innings) game k bytes answer l → Each (RoundFine v) rounds → Each (RoundFine v) (rounds_after k rounds bytes answer)
  call_fine bytes (Ok (What.Heard Heard.Agreed)) rounds came (Message.Vote x, says, r) h =
      let c = r.0 in heard_fine bytes x x.entry rounds says (came (Message.Vote x) says) c.0 c.1 c.2 h
  call_fine bytes (Ok (What.Heard Heard.Agreed)) rounds came (Message.Ask q, says, r) h = absurd r
  call_fine bytes (Ok (What.Heard Heard.Differ)) rounds came (Message.Vote x, says, r) h =
      let c = r.0 in heard_fine bytes x c.2.0 rounds says (came (Message.Vote x) says) c.0 c.1 c.2.1 h
  call_fine bytes (Ok (What.Heard Heard.Differ)) rounds came (Message.Ask q, says, r) h = absurd r
  call_fine bytes _ rounds came t h = grind arith

-- ---- no cast vote contradicts such a round

at_once : (p q : Position) → is_at p q ≡ true → p ≡ q
at_once p q e = grind (arith, nat_tests)

one_code : (e f : Entry) → e ≡ f → is_alike e f ≡ true
one_code e f same = (bytes_eq-Decides (code e) (code f)).1 (ap code same)

both_true : (p q : Bool) → (p && q) ≡ true → (p ≡ true) × (q ≡ true)
both_true p q e = grind arith

never_true : (p : Bool) → (p ≡ true → ⊥) → p ≡ false
never_true true n = absurd (n refl)
never_true false n = refl

earlier_there : (r : Round) (x : Vote) → ((r.at.place == x.place) && nat_lt r.at.round x.round) ≡ true → (r.at.place ≡ x.place) × (r.at.round < x.round)
earlier_there r x e = grind (arith, nat_tests)

module _ (v : AllVotes) (j : AllJustified v) (entries : (d : DeskId) (b : Ballot) → In b (votes_by v d) → IsEntry b.entry) where
  cast : (d : DeskId) (r : Round) → RoundFine v r → In (record { at = r.at; entry = cast_by d r }) (votes_by v d)
  cast A r h = h.0
  cast B r h = h.1

  once : (d : DeskId) (b c : Ballot) → In b (votes_by v d) → In c (votes_by v d) → b.at ≡ c.at → b ≡ c
  once A b c i k e = one_vote v.b v.a j.0 b c i k e
  once B b c i k e = one_vote v.a v.b j.1 b c i k e

  -- no desk votes in a later round than one in which both voted alike
  none_after : (d : DeskId) (r : Round) (b : Ballot) → RoundFine v r → r.a ≡ r.b → In b (votes_by v d) → r.at.place ≡ b.at.place → r.at.round < b.at.round → ⊥
  none_after A r b h same i place later =
      none_later v.a v.b j.0 j.1 r.at.place r.at.round b.at.round r.a b.entry
      (h.0, subst (λ (e : Entry). In (record { at = r.at; entry = e }) v.b) (sym same) h.1)
      (subst (λ (p : ℕ). In (ballot_at p b.at.round b.entry) v.a) (sym place) i) later
  none_after B r b h same i place later =
      none_later v.b v.a j.1 j.0 r.at.place r.at.round b.at.round r.b b.entry
      (h.1, subst (λ (e : Entry). In (record { at = r.at; entry = e }) v.a) same h.0)
      (subst (λ (p : ℕ). In (ballot_at p b.at.round b.entry) v.b) (sym place) i) later

  module _ (x : Vote) (i : In (ballot_of x) (votes_by v x.desk)) (r : Round) (h : RoundFine v r) where
    not_another : is_another x r ≡ false
    not_another = never_true (is_another x r) (λ e.
        let both = both_true (is_at r.at (position_of x)) (not (is_alike (cast_by x.desk r) x.entry)) e in
        let same = once x.desk (record { at = r.at; entry = cast_by x.desk r }) (ballot_of x) (cast x.desk r h) i (at_once r.at (position_of x) both.0) in
        let alike = one_code (cast_by x.desk r) x.entry (ap (λ (b : Ballot). b.entry) same) in
        absurd (cc (both.1, alike)))

    not_later : is_later x r ≡ false
    not_later = never_true (is_later x r) (λ e.
        let both = both_true ((r.at.place == x.place) && nat_lt r.at.round x.round) (is_alike r.a r.b) e in
        let there = earlier_there r x both.0 in
        let same = code_once r.a r.b (entries A (record { at = r.at; entry = r.a }) h.0) (entries B (record { at = r.at; entry = r.b }) h.1) ((bytes_eq-Decides (code r.a) (code r.b)).0 both.1) in
        none_after x.desk r (ballot_of x) h same i there.0 there.1)

    not_against : is_against x r ≡ false
    not_against = ap₂ ◌||◌ not_another not_later

  none_parts : (x : Vote) → In (ballot_of x) (votes_by v x.desk) → (rounds : List Round) → Each (RoundFine v) rounds → parts rounds x ≡ false
  none_parts x i [] h = refl
  none_parts x i (r ∷ rs) h = ap₂ ◌||◌ (not_against x i r h.0) (none_parts x i rs h.1)

-- ---- in a flow

module _ {Disk : Type 0} (s : Setting Disk Refusal) (game innings : ℕ) (rules : s.rules ≡ book_refusal innings) (version : FileVersion) (count : ℕ)
    (w : Configuration Disk) (begins : Begins s version count w)
  where
    abbrev Happened : List (Happening Disk) → Type 0
    Happened hs = Flow s.view game innings w hs

    abbrev votes_after : List (Happening Disk) → AllVotes
    votes_after hs = all_votes (after w hs)

    fine_after : (hs : List (Happening Disk)) → Happened hs → Fine s (after w hs)
    fine_after hs f = fine s game innings rules version count w begins hs f

    grows : (hs : List (Happening Disk)) (h : Happening Disk) → Happened (h ∷ hs) → VotesGrow (votes_after hs) (votes_after (h ∷ hs))
    grows hs h f =
        let v = after w hs in
        let led = happening s game innings rules v (stays_calm s game innings rules w (begins_calm s game innings rules version count w begins) hs) h f.1 in
        subst (λ (u : Configuration Disk). VotesGrow (all_votes v) (all_votes u)) led.ends (run_grows s v led.moments (fine_after hs f.0) led.run)

    -- a vote that came was cast
    came_fine : (hs : List (Happening Disk)) → Happened hs → (bytes : List ℕ) → WasSent game (after w hs).sent bytes → (m : Message) → Says game bytes m → MessageFine (votes_after hs) m
    came_fine hs f bytes came m says =
        let found = came m says in
        given_fine (votes_after hs) (after w hs).sent found.0 m (fine_after hs f).on_sent found.1

    called_fine : (hs : List (Happening Disk)) → Happened hs → (m : ℕ) (k l : BoardState) (call : BoardCall) (out : List Message) → board_at (after w hs).boards m ≡ Some k
        → BoardCame game (after w hs).sent call → BoardStep game innings k call out l → (rounds : List Round) → Each (RoundFine (votes_after hs)) rounds
        → Each (RoundFine (votes_after hs)) (rounds_called (Some k) call rounds)
    called_fine hs f m k l (boards.Given bytes answer) out at came step rounds r =
        call_fine game innings (votes_after hs) k l (board_fine_at (votes_after hs) (after w hs).boards m k at (fine_after hs f).on_boards) bytes answer rounds
        (came_fine hs f bytes came) step.0 r
    called_fine hs f m k l _ out at came step rounds r = r

    stepped : (hs : List (Happening Disk)) (h : Happening Disk) → Happened (h ∷ hs) → (n : ℕ) → Each (RoundFine (votes_after hs)) (rounds_at w n hs)
        → Each (RoundFine (votes_after hs)) (rounds_at w n (h ∷ hs))
    stepped hs (BoardCalled m sheet call out l text seen) f n r = here (nat_eq n m)
      where
        there : Each (RoundFine (votes_after hs)) (rounds_called (board_at (after w hs).boards m) call (rounds_at w n hs))
        there = rw f.1.1 (called_fine hs f.0 m f.1.0 l call out f.1.1 f.1.2 f.1.3 (rounds_at w n hs) r)

        here : (b : Bool) → Each (RoundFine (votes_after hs)) (if b then rounds_called (board_at (after w hs).boards m) call (rounds_at w n hs) else rounds_at w n hs)
        here true = there
        here false = r
    stepped hs (BoardBegun m) f n r = here (nat_eq n m)
      where
        here : (b : Bool) → Each (RoundFine (votes_after hs)) (if b then [] else rounds_at w n hs)
        here true = tt
        here false = r
    stepped hs h f n r = grind arith

    rounds_fine : (hs : List (Happening Disk)) → Happened hs → (n : ℕ) → Each (RoundFine (votes_after hs)) (rounds_at w n hs)
    rounds_fine [] f n = tt
    rounds_fine (h ∷ hs) f n =
        each_other (RoundFine (votes_after hs)) (RoundFine (votes_after (h ∷ hs))) (round_grows (votes_after hs) (votes_after (h ∷ hs)) (grows hs h f)) (rounds_at w n (h ∷ hs))
        (stepped hs h f n (rounds_fine hs f.0 n))

    pub no_vote_parts : (hs : List (Happening Disk)) → Happened hs → AllAreEntries (votes_after hs) → NoVoteParts w hs
    no_vote_parts hs f entries n i x at =
        let fine = fine_after hs f in
        none_parts (votes_after hs) (all_justified s (after w hs) fine) entries x (item_at (MessageFine (votes_after hs)) (after w hs).sent i (Message.Vote x) at fine.on_sent)
        (rounds_at w n hs) (rounds_fine hs f n)
