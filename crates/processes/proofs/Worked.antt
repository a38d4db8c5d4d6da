-- The worked life consists of happenings of processes.
use Rattle.std.proofs.Common.{◌≡◌, ℕ, zero, suc, Some, None, Option, List, [], ◌∷◌, Ok, refl, sym, ap, ◌∙◌, inl, inr, arith, slice_get}
use Rattle.std.specs.Prelude.{All, codes}
use Rattle.std.specs.Fmt.{digits}
use Rattle.std.specs.List.{filter}
use Rattle.std.proofs.lemmas.Bool.{ne_eqb}
use Rattle.std.proofs.lemmas.List.Elements.{All-cons, All-nil}
use Rattle.notation.specs.declared.entry.Entry.TheVariants.{Write}
use Rattle.notation.specs.declared.entry.Plain.TheVariants.{Void}
use Rattle.match_laws.specs.Refusals as rules
use Rattle.corrections.specs.Refusal.{book_refusal}
use Rattle.entry_log.specs.Blame.{BlamesDisk}
use Rattle.entry_log.specs.Disk.{IsImage, only}
use Rattle.agree_core.specs.declared.{messages.DeskId.DeskId, messages.Message.Message, position.Position.Position, seat.Settled.Settled}
use Rattle.agree_core.specs.Ballots.{Ballot, vote_of}
use Rattle.agree_core.specs.Boards.{BoardState, fresh_board}
use Rattle.corrections.specs.CleanList.{clean, clean_items_of, history_of}
use Rattle.match_laws.specs.Figures.{penalty_runs, total}
use Rattle.match_laws.specs.History.{begun_by}
use Rattle.match_laws.specs.Result.{is_decided, outcome, side_total, target}
use Rattle.agree_core.specs.declared.messages.DeskId.TheVariants.{A, B}
use Rattle.board.specs.Rounds.{desk_asking, recalled, recalled_at}
use Rattle.agree_core.specs.declared.seat.Heard as hearing
use Rattle.agree_core.specs.FileView.{FileView, Holds}
use Rattle.agree_core.specs.Openings.{NotOpened, Opened, OpenRefusal}
use Rattle.cards.specs.Sheet.{Sheet}
use Rattle.seal.specs.Rings.{Seals, ring_of_board, seals_by}
use Rattle.seal.specs.Sealed.{sealed}
use Rattle.seal.specs.declared.ring.Ring.{Ring}
use Rattle.shorthand.proofs.Standing.{full_lines_stand}
use Rattle.vote_store.specs.View.{file_view, votes_shown}
use Rattle.vote_store.specs.Sequence.{file_votes, votes_after}
use Rattle.vote_store.proofs.RecordLemmas.{vote_in-record_of}
use Rattle.wire.specs.Layout.{IsMessage, Says}
use Rattle.wire.specs.declared.what.What.{What}
use Rattle.wire.proofs.MessageLemmas.{says_once}
use Rattle.headline.specs.declared.event.Station.{Station}
use Rattle.processes.specs.Exchanges.{ProcessExchange}
use Rattle.processes.specs.Happenings.{BoardCalled, DeskCalled}
use Rattle.wire.specs.declared.what.What.TheVariants.{Heard}
use Rattle.headline.specs.declared.version.FileVersion.TheVariants.{New}
use Rattle.live.specs.Boards as boards
use Rattle.live.specs.Desks as desks
use Rattle.live.specs.DeskLife.{fresh}
use Rattle.live.specs.Ends.{further}
use Rattle.live.specs.Runs as own
use Rattle.live.specs.declared.ends.DeskEnd.TheVariants.{Device}
use Rattle.station_texts.specs.declared.reminder.Reminder.TheVariants.{HasWritten}
use Rattle.station_texts.specs.declared.said.Said.TheVariants.{Penned}
use Rattle.headline.specs.Configurations.{board_at, fresh_boards, node}
use Rattle.screen.specs.Words.{is_end, word_of}
use Rattle.station_texts.specs.Saying.{IsNoWord, SaysEntry}
use Rattle.processes.specs.Files.{NoneShowNone}
use Rattle.processes.specs.Lives.{Beginning, BeginsFirst, BoardProcess, BoardRuns, CallsMade, IsBoardLife, IsLife, ProcessEnd, RunsFrom, Stage, board_happens, fresh_turn, life_happens}
use Rattle.live.specs.Sights.{Sight, sight_of}
use Rattle.processes.specs.Sealing.{IsAuthentic, ring_of_desk}
use Rattle.processes.proofs.DeskSteps.{stays_refl}
use Rattle.processes.specs.Weaving.{IsWoven, is_at_board, is_at_desk, start}
use Rattle.processes.specs.Worked.{LivedHasExchange, LivedIsWoven, a_again, a_bytes, a_penned, a_says, b_bytes, b_noted, b_penned, b_says}
use Rattle.processes.specs.Worked.{ask_bytes, exchanged}
use Rattle.processes.specs.Worked.{board_agreed, board_asks, board_noted, disk_with, disk_without, lived, new_desk, no_faults, the_vote, toy}

only_is : (file image : List ℕ) → IsImage (only file) image → image ≡ file
only_is (x ∷ xs) (y ∷ ys) h = let rest = only_is xs ys h.1 in λ i. h.0 i ∷ rest i
only_is file image h = grind arith

abbrev view : DeskId → FileView (List ℕ)
view d = file_view (toy New) (λ disk. disk) only d 7

none_read : (d : DeskId) → votes_shown (toy New) d 7 disk_without ≡ Some []
unfolding file_votes votes_after
none_read d = grind arith

one_read : (d : DeskId) → votes_shown (toy New) d 7 disk_with ≡ Some (the_vote ∷ [])
unfolding file_votes votes_after
one_read d = grind (arith, vote_in-record_of the_vote (omega arith, omega arith) tt)

holds : (d : DeskId) (disk : List ℕ) (votes : List Ballot) → votes_shown (toy New) d 7 disk ≡ Some votes → Holds (view d) disk votes
holds d disk votes read = (read, λ image h. sym h.2 ∙ ap (votes_shown (toy New) d 7) (only_is disk h.0 h.1) ∙ read)

taken : (n : ℕ) → book_refusal n [] (Write Void) ≡ None
unfolding book_refusal rules.refusal
taken n = refl

-- no call of this life blames a disk
blameless : {X within : Type 0} → X → BlamesDisk Device within further (no_faults []) (no_faults [])
blameless x = record { failed = λ h. cc; same = λ h. refl; calm = λ due fits h. cc; spent = λ once fits h. cc }

-- one more call, which leaves its station in state l
abbrev then : {State Call Kept : Type 0} → (State → Call → Kept → State) → State → List (own.Moment State Call) → Call → List Message → Kept → List (own.Moment State Call)
then after_call k ms call out l = record { call = call; out = out; after = after_call (own.last_of k ms) call l } ∷ ms

is_message : (d : DeskId) → IsMessage (Message.Vote (vote_of d the_vote))
is_message d = ((omega arith, omega arith), tt)

none_out : All IsMessage []
none_out = All-nil IsMessage

one_out : (m : Message) → IsMessage m → All IsMessage (m ∷ [])
one_out m fine = All-cons IsMessage m [] fine none_out

-- a station had sealed the datagram
a_sealed : (ring : Ring) (seal : List ℕ) (more : List Message) → slice_get (seals_by ring a_bytes) 0 ≡ Some seal → IsAuthentic ring 7 (a_says ∷ more) a_bytes
a_sealed ring seal more there = λ v says.
    (sealed seal a_bytes, refl, (0, (seal, there, (None, tt, refl), λ m long same. (0, (a_says, refl, (None, tt, refl))))))

b_sealed : (ring : Ring) (seal : List ℕ) (more : List Message) → slice_get (seals_by ring b_bytes) 0 ≡ Some seal → IsAuthentic ring 7 (a_says ∷ b_says ∷ more) b_bytes
b_sealed ring seal more there = λ v says.
    (sealed seal b_bytes, refl, (0, (seal, there, (None, tt, refl), λ m long same. (1, (b_says, refl, (None, tt, refl))))))

-- an ask is no vote
asks : Says 7 ask_bytes board_asks
asks = ((omega arith, omega arith), refl)

ask_came : (ring : Ring) (sent : List Message) → IsAuthentic ring 7 sent ask_bytes
ask_came ring sent = λ v says. let same = says_once 7 ask_bytes (Message.Vote v) board_asks says asks in absurd cc

-- ---- desk A

module _ (s : Sheet) where
  abbrev calls_of_a : List (own.Moment (desks.DeskProcess (List ℕ)) desks.DeskCall)
  calls_of_a =
      let penned = then desks.after_call (fresh (new_desk A)) [] (desks.Typed (codes "void") (Penned (Write Void) Settled.Pending)) (a_says ∷ []) a_penned in
      then desks.after_call (fresh (new_desk A)) penned (desks.Given ask_bytes What.Asked) (a_says ∷ []) a_penned

  abbrev life_of_a : List (Stage (List ℕ))
  life_of_a =
      CallsMade s a_again [] ∷ Beginning (Opened a_again) ∷ Beginning (NotOpened OpenRefusal.DeviceFailed disk_with) ∷ ProcessEnd disk_with
      ∷ CallsMade s (new_desk A) calls_of_a ∷ []

  no_word : IsNoWord (codes "void")
  unfolding is_end word_of
  no_word = (refl, refl)

  says : SaysEntry s [] [] 0 (codes "void") (Write Void)
  says = (no_word, inl (codes "void", refl, (tt, full_lines_stand s [] (Write Void) tt)))

  a_pens : desks.DeskStep s (view A) 7 1 (new_desk A) (desks.Typed (codes "void") (Penned (Write Void) Settled.Pending)) (a_says ∷ []) a_penned
  a_pens = (says, (((refl, refl), ((omega arith, omega arith), omega arith), taken 1), ((refl, refl), refl, refl, refl, holds A disk_with (the_vote ∷ []) (one_read A)), refl))

  a_answers : desks.DeskStep s (view A) 7 1 a_penned (desks.Given ask_bytes What.Asked) (a_says ∷ []) a_penned
  a_answers = (board_asks, asks, (refl, (stays_refl (view A) disk_with, refl), inl (Write Void, inl refl, refl)))

  a_runs : RunsFrom s (view A) no_faults 7 1 (new_desk A) calls_of_a
  a_runs = (
    (λ n. n),
    0,
    ((tt, one_out a_says (is_message A), (refl, a_pens, blameless, refl, refl, tt)), one_out a_says (is_message A), (refl, a_answers, blameless, refl, tt, tt)),
  )

  abbrev LivesAsA : List (Stage (List ℕ)) → Type 0
  LivesAsA = IsLife (λ version. file_view (toy version) (λ disk. disk) only A 7) (λ disk. disk) no_faults A 7 1 (node (start New 1 (new_desk A) (new_desk B)) A)

  a_not_opened : LivesAsA (Beginning (NotOpened OpenRefusal.DeviceFailed disk_with) ∷ ProcessEnd disk_with ∷ CallsMade s (new_desk A) calls_of_a ∷ [])
  a_not_opened = (((tt, (refl, a_runs)), (a_penned, refl, stays_refl (view A) disk_with)), (the_vote ∷ [], disk_with, refl, ((λ none. tt), (λ some. inl (stays_refl (view A) disk_with)))))

  a_opened : LivesAsA (Beginning (Opened a_again) ∷ Beginning (NotOpened OpenRefusal.DeviceFailed disk_with) ∷ ProcessEnd disk_with ∷ CallsMade s (new_desk A) calls_of_a ∷ [])
  a_opened = (a_not_opened, (the_vote ∷ [], disk_with, refl, ((λ none. absurd (omega (arith, none))), (λ some. (one_read A, (taken 1, tt), holds A disk_with (the_vote ∷ []) (one_read A), refl)))))

  a_lives : LivesAsA life_of_a
  a_lives = (a_opened, (refl, ((λ n. n), 0, tt)))

  -- ---- desk B

  abbrev b_reminded : List (own.Moment (desks.DeskProcess (List ℕ)) desks.DeskCall)
  b_reminded =
      let noted = then desks.after_call (fresh (new_desk B)) [] (desks.Given a_bytes (Heard hearing.Heard.Noted)) [] b_noted in
      then desks.after_call (fresh (new_desk B)) noted (desks.Reminded HasWritten) [] b_noted

  abbrev calls_of_b : List (own.Moment (desks.DeskProcess (List ℕ)) desks.DeskCall)
  calls_of_b =
      let penned = then desks.after_call (fresh (new_desk B)) b_reminded (desks.Typed (codes "void") (Penned (Write Void) Settled.Agreed)) (b_says ∷ []) b_penned in
      then desks.after_call (fresh (new_desk B)) penned (desks.Given ask_bytes What.Asked) (b_says ∷ []) b_penned

  b_notes : desks.DeskStep s (view B) 7 1 (new_desk B) (desks.Given a_bytes (Heard hearing.Heard.Noted)) [] b_noted
  b_notes = (a_says, (is_message A, refl), (refl, (((λ e. cc), refl), refl, refl, refl), stays_refl (view B) disk_without, refl, refl))

  b_pens : desks.DeskStep s (view B) 7 1 b_noted (desks.Typed (codes "void") (Penned (Write Void) Settled.Agreed)) (b_says ∷ []) b_penned
  b_pens = (says, (((refl, refl), ((omega arith, omega arith), omega arith), taken 1), ((refl, refl), refl, refl, refl, holds B disk_with (the_vote ∷ []) (one_read B)), refl))

  b_answers : desks.DeskStep s (view B) 7 1 b_penned (desks.Given ask_bytes What.Asked) (b_says ∷ []) b_penned
  b_answers = (board_asks, asks, (refl, (stays_refl (view B) disk_with, refl), inl (Write Void, inl refl, refl)))

  b_runs : RunsFrom s (view B) no_faults 7 1 (new_desk B) calls_of_b
  b_runs = (
    (λ n. n),
    0,
    (
      (
        ((tt, none_out, (refl, b_notes, blameless, refl, tt, tt)), none_out, (refl, (refl, refl), blameless, refl, (refl, refl, refl), tt)),
        one_out b_says (is_message B),
        (refl, b_pens, blameless, refl, refl, tt),
      ),
      one_out b_says (is_message B),
      (refl, b_answers, blameless, refl, tt, tt),
    ),
  )

  desk_lives : (d : DeskId) → (life : List (Stage (List ℕ)))
      × IsLife (λ version. file_view (toy version) (λ disk. disk) only d 7) (λ disk. disk) no_faults d 7 1 (node (start New 1 (new_desk A) (new_desk B)) d) life
      × (filter (is_at_desk d) (lived s) ≡ life_happens 1 d life)
  unfolding history_of clean clean_items_of digits
  desk_lives A = (life_of_a, a_lives, refl)
  desk_lives B = (CallsMade s (new_desk B) calls_of_b ∷ [], (tt, (refl, b_runs)), refl)

  -- ---- the board

  abbrev at_first : List Sight
  at_first = sight_of s 1 [] None ∷ []

  abbrev next : List (own.Moment boards.BoardTurn boards.BoardCall) → boards.BoardCall → List Message → BoardState → List (own.Moment boards.BoardTurn boards.BoardCall)
  next = then (boards.after_call s 1) (fresh_turn [] at_first)

  abbrev asked : List (own.Moment boards.BoardTurn boards.BoardCall)
  asked = next (next [] (boards.Looked 0) [] fresh_board) boards.Ticked (board_asks ∷ []) fresh_board

  abbrev heard : List (own.Moment boards.BoardTurn boards.BoardCall)
  heard =
      next (next asked (boards.Given a_bytes (Ok (Heard hearing.Heard.Noted))) [] board_noted)
      (boards.Given b_bytes (Ok (Heard hearing.Heard.Agreed))) [] board_agreed

  abbrev calls_of_board : List (own.Moment boards.BoardTurn boards.BoardCall)
  calls_of_board = next heard boards.TurnEnded [] board_agreed

  board_asks_it : BoardRuns 7 1 s (fresh_turn [] at_first) asked
  board_asks_it = ((tt, none_out, (tt, (refl, refl), refl, tt)), one_out board_asks (omega arith, omega arith), (tt, (inl ((omega arith, omega arith), refl), refl), refl, refl))

  -- the board has heard no round whole, so it hands no vote back
  none_at : (o : Option DeskId) (at : Position) → recalled_at [] o at ≡ None
  none_at None at = refl
  none_at (Some d) at = refl

  none_recalled : (m : Message) → recalled [] m ≡ None
  none_recalled (Message.Vote v) = refl
  none_recalled (Message.Ask q) = none_at (desk_asking q.from) (record { place = q.place; round = q.round })

  board_hears : BoardRuns 7 1 s (fresh_turn [] at_first) heard
  board_hears = (
    (board_asks_it, none_out, ((omega arith, refl, λ m says. none_recalled m), ((a_says, (is_message A, refl), ((refl, refl, refl, refl), (λ e. cc), refl)), refl), refl, omega arith)),
    none_out,
    ((omega arith, refl, λ m says. none_recalled m), ((b_says, (is_message B, refl), ((refl, refl, refl, refl), (λ e. taken 1), refl)), refl), refl, omega arith),
  )

  board_runs : BoardRuns 7 1 s (fresh_turn [] at_first) calls_of_board
  board_runs = (board_hears, none_out, (tt, (refl, refl), refl, (refl, omega arith)))

  elsewhere : (n : ℕ) → filter (is_at_board (suc (suc n))) (lived s) ≡ []
  elsewhere n = rw (ne_eqb (suc (suc n)) 1 (λ e. omega (arith, e))) refl

  board_lives : (n : ℕ) → (life : List BoardProcess) × IsBoardLife 7 1 life × (filter (is_at_board n) (lived s) ≡ board_happens 1 n life)
  unfolding history_of clean clean_items_of target outcome is_decided side_total begun_by total penalty_runs
  board_lives zero = ([], tt, refl)
  board_lives (suc zero) =
      (record { sheet = s; noted = []; seen = at_first; first = at_first; calls = calls_of_board } ∷ [], (tt, (inl refl, board_runs)), refl)
  board_lives (suc (suc n)) = ([], tt, elsewhere n)

  no_others : (n : ℕ) → board_at (fresh_boards 1) n ≡ None → filter (is_at_board n) (lived s) ≡ []
  no_others (suc (suc n)) e = elsewhere n
  no_others n e = grind arith

none_shown : NoneShowNone toy 7
unfolding file_votes votes_after
none_shown version d = refl

begins_first : (d : DeskId) → BeginsFirst (view d) (λ disk. disk) 1 d (new_desk d)
begins_first d = (disk_without, ((λ none. absurd (omega (arith, none))), (λ some. (none_read d, tt, holds d disk_without [] (none_read d), refl))), refl)

woven : (s : Sheet) (seals : Seals) → IsWoven (λ disk. disk) only no_faults seals toy 7 1 (start New 1 (new_desk A) (new_desk B)) (lived s)
woven s seals = record {
  order = (((((((((((((((((((tt, tt), tt), tt), a_sealed (ring_of_desk seals B) seals.desks [] refl), tt), tt), tt), tt), tt), tt), ask_came (ring_of_desk seals A) (a_says ∷ b_says ∷ board_asks ∷ [])), a_sealed (ring_of_board seals 1) (seals.a 1) (b_says ∷ board_asks ∷ a_says ∷ []) refl), ask_came (ring_of_desk seals B) (a_says ∷ b_says ∷ board_asks ∷ a_says ∷ [])), b_sealed (ring_of_board seals 1) (seals.b 1) (board_asks ∷ a_says ∷ b_says ∷ []) refl), tt), tt), tt), tt), tt);
  desks = desk_lives s;
  boards = board_lives s;
  no_others = no_others s;
}

-- the board's exchange with both desks
module _ (s : Sheet) where
  -- in a list of one message, the message said is that one
  only_said : (m n : Message) (i : ℕ) → slice_get (m ∷ []) i ≡ Some n → n ≡ m
  only_said m n zero e = cc
  only_said m n (suc i) e = absurd cc

  a_exchanges : ProcessExchange 7 (Station.Board 1) A (exchanged s)
  a_exchanges = record {
    later =
        BoardCalled 1 s (boards.Given b_bytes (Ok (Heard hearing.Heard.Agreed))) [] board_agreed [] []
        ∷ DeskCalled B s (desks.Given ask_bytes What.Asked) (b_says ∷ []) b_penned []
        ∷ BoardCalled 1 s (boards.Given a_bytes (Ok (Heard hearing.Heard.Noted))) [] board_noted [] []
        ∷ DeskCalled A s (desks.Given ask_bytes What.Asked) (a_says ∷ []) a_penned []
        ∷ [];
    at = BoardCalled 1 s boards.Ticked (board_asks ∷ []) fresh_board [] [];
    earlier = [];
    whole = refl;
    ticks = refl;
    answered = λ m said. record {
      later =
          BoardCalled 1 s (boards.Given b_bytes (Ok (Heard hearing.Heard.Agreed))) [] board_agreed [] []
          ∷ DeskCalled B s (desks.Given ask_bytes What.Asked) (b_says ∷ []) b_penned []
          ∷ BoardCalled 1 s (boards.Given a_bytes (Ok (Heard hearing.Heard.Noted))) [] board_noted [] []
          ∷ [];
      at = DeskCalled A s (desks.Given ask_bytes What.Asked) (a_says ∷ []) a_penned [];
      earlier = [];
      whole = refl;
      taken = (refl, rw (only_said board_asks m said.0 said.1) asks);
      heard = λ reply answer. inr (inr (inl (refl, rw (only_said a_says reply answer.0 answer.1) (is_message A, refl))));
    };
  }

  b_exchanges : ProcessExchange 7 (Station.Board 1) B (exchanged s)
  b_exchanges = record {
    later =
        BoardCalled 1 s (boards.Given b_bytes (Ok (Heard hearing.Heard.Agreed))) [] board_agreed [] []
        ∷ DeskCalled B s (desks.Given ask_bytes What.Asked) (b_says ∷ []) b_penned []
        ∷ BoardCalled 1 s (boards.Given a_bytes (Ok (Heard hearing.Heard.Noted))) [] board_noted [] []
        ∷ DeskCalled A s (desks.Given ask_bytes What.Asked) (a_says ∷ []) a_penned []
        ∷ [];
    at = BoardCalled 1 s boards.Ticked (board_asks ∷ []) fresh_board [] [];
    earlier = [];
    whole = refl;
    ticks = refl;
    answered = λ m said. record {
      later = BoardCalled 1 s (boards.Given b_bytes (Ok (Heard hearing.Heard.Agreed))) [] board_agreed [] [] ∷ [];
      at = DeskCalled B s (desks.Given ask_bytes What.Asked) (b_says ∷ []) b_penned [];
      earlier =
          BoardCalled 1 s (boards.Given a_bytes (Ok (Heard hearing.Heard.Noted))) [] board_noted [] []
          ∷ DeskCalled A s (desks.Given ask_bytes What.Asked) (a_says ∷ []) a_penned []
          ∷ [];
      whole = refl;
      taken = (refl, rw (only_said board_asks m said.0 said.1) asks);
      heard = λ reply answer. inl (refl, rw (only_said b_says reply answer.0 answer.1) (is_message B, refl));
    };
  }

  exchanges : (d : DeskId) → ProcessExchange 7 (Station.Board 1) d (exchanged s)
  exchanges A = a_exchanges
  exchanges B = b_exchanges

pub lived_has_exchange : LivedHasExchange
lived_has_exchange s = ((((((tt, tt), tt), tt), tt), tt), (exchanged s, [], refl, tt, exchanges s))

pub lived_is_woven : LivedIsWoven
lived_is_woven = (none_shown, (begins_first A, begins_first B), woven)
