-- Runs of a board.
use Rattle.std.proofs.Common.{◌≡◌, ◌⊎◌, ◌<◌, ◌+◌, ℕ, List, [], ◌∷◌, ◌++◌, Option, None, Some, Result, true, false, inl, inr, ⊎_elim}
use Rattle.std.proofs.Common.{refl, sym, ◌∙◌, subst, append-nil}
use Rattle.std.proofs.lemmas.List.Elements.{All-nil}
use Rattle.streams.proofs.Appending.{appends_none}
use Rattle.wire.specs.Layout.{IsMessage, Says}
use Rattle.wire.specs.inner.Fields.{place_in}
use Rattle.std.specs.Prelude.{All, Ok, Err, IsErr, IsErrAnd, IsSome, OnOk, is_some}
use Rattle.std.specs.Io.KnownBytes.{Appends}
use Rattle.notation.specs.declared.entry.Entry.{Entry}
use Rattle.agree_core.specs.declared.messages.{Message.Message, Vote.Vote}
use Rattle.corrections.specs.CleanList.{history_of}
use Rattle.corrections.specs.Refusal.{book_refusal}
use Rattle.wire.specs.declared.what.What.{What}
use Rattle.cards.specs.Board.{board as board_text}
use Rattle.cards.specs.Sheet.{Sheet}
use Rattle.board.specs.declared.{refusal.BoardRefusal.BoardRefusal, board.Board.Board, trouble.Why.Why}
use Rattle.board.specs.Board.{SameMatch, book_of, game_of, state_of}
use Rattle.board.specs.Takes.{Takes}
use Rattle.links.specs.Passed.{Passed, Came, Sent, sends}
use Rattle.links.specs.declared.link.Receivers.TheVariants.{ToAll, ToOne}
use Rattle.live.specs.Runs.{Goes, Logs, known_where, with_told}
use Rattle.live.specs.Boards.{Asks, BoardCall, BoardGoes, BoardLives, BoardRuns, BoardTurn, Given, IsApart, Looked, Memory, Parted, PartsNothing, PassedBy, Read, Recalled, Recalls, RecallsNone, Ticked, ToldApart, TurnEnded, TurnStep, Unopened}
use Rattle.live.specs.Boards.{at_turn, beat_of, board_kind, given, in_turn, memory_given, memory_troubled, memory_unopened, shown, sight_at, unheard}
use Rattle.live.specs.Sights.{Sight}
use Rattle.live.specs.Ticks.{IsInTime, Ticking, after_look, reads, unticked}
use Rattle.station_texts.specs.Notices.{is_stopped, notices_after, notices_unopened}
use Rattle.links.specs.declared.link.TheConstants.{MOST_TAKEN}
use Rattle.station_texts.specs.declared.notices.Notice.{Notice}
use Rattle.live.proofs.TellingLemmas.{told_first}
use Rattle.live.proofs.RunLemmas.{both, none_logged, one, stays, unsaid}

same_here : {B : Type 0} {g : _} {innings_of : B → ℕ} {k : Board B g} → SameMatch innings_of k k
same_here = record { game = refl; innings_a_side = refl }

module _ {B : Type 0} {g : _} {content : B → List Entry} {innings_of : B → ℕ} {sheet : Sheet} {k : Board B g} where
  pub rests : {p : BoardTurn} {a : Logs} → BoardGoes content innings_of sheet k k p p a a
  rests = record { same = same_here; goes = stays }

  module _ {l : Board B g} {p q : BoardTurn} {a b : Logs} where
    pub then : {m : Board B g} {r : BoardTurn} {c : Logs} → BoardGoes content innings_of sheet k l p q a b → BoardGoes content innings_of sheet l m q r b c
        → BoardGoes content innings_of sheet k m p r a c
    then {r = r} {c = c} v w =
        let kind : board_kind sheet (game_of l) (innings_of (book_of l)) ≡ board_kind sheet (game_of k) (innings_of (book_of k)) =
        λ i. board_kind sheet (v.same.game i) (v.same.innings_a_side i) in
        record {
          same = record { game = w.same.game ∙ v.same.game; innings_a_side = w.same.innings_a_side ∙ v.same.innings_a_side };
          goes = both v.goes (subst (λ kind. Goes kind q r b c) kind w.goes);
        }

    pub silent : BoardGoes content innings_of sheet k l p q a b → BoardGoes content innings_of sheet k l p q (record a { told = None }) (record b { told = None })
    silent v = record { same = v.same; goes = unsaid v.goes }

    -- the log may be given by an equal one
    pub logged : {after : List Passed} → b.passed ≡ after → BoardGoes content innings_of sheet k l p q a b
        → BoardGoes content innings_of sheet k l p q a (record b { passed = after })
    logged e v = rw (← e) v

  -- one call
  called : {l : Board B g} {p q : BoardTurn} {a b : Logs} (call : BoardCall) (out : List Message) → SameMatch innings_of k l → All IsMessage out
      → TurnStep sheet (game_of k) (innings_of (book_of k)) p call out q → b.passed ≡ a.passed ++ (given call ++ sends ToAll (game_of k) out) → b.typed ≡ a.typed
      → b.readings ≡ a.readings ++ reads (beat_of call) → Appends a.told b.told (shown sheet (innings_of (book_of k)) p call q)
      → b.tellings ≡ a.tellings → BoardGoes content innings_of sheet k l p q a b
  called call out same fine step passed types times text tells =
      record { same = same; goes = one call out fine step passed (rw (types, append-nil)) times text (rw (tells, append-nil)) }

  module _ {turns had taken : ℕ} {memory : Memory} {ticking : Ticking} {noted : List Notice} {seen : List Sight} {a : Logs} where
    -- it was given a datagram
    pub given_to : {l : Board B g} (bytes : List ℕ) (answer : Result What BoardRefusal) {later : Memory} {heard : Ticking} {notes : List Notice}
        → IsInTime ticking → heard ≡ ticking → taken < MOST_TAKEN → is_stopped memory.telling ≡ false
        → RecallsNone (game_of k) memory.rounds bytes → SameMatch innings_of k l
        → Takes (book_refusal (innings_of (book_of k))) (game_of k) (state_of content k) bytes answer (state_of content l)
        → later ≡ memory_given (state_of content k) memory bytes answer → notes ≡ notices_after memory.telling noted answer
        → BoardGoes content innings_of sheet k l (in_turn content k turns had taken memory ticking noted seen) (in_turn content l turns had (taken + 1) later heard notes seen)
        a (record a { passed = a.passed ++ Came bytes ∷ [] })
    given_to {l = l} bytes answer beats stands few running kept same takes tells notices =
        called (Given bytes answer) [] same (All-nil IsMessage)
        ((few, running, kept), (takes, refl), (λ i. in_turn content l turns had (taken + 1) (tells i) (stands i) (notices i) seen), beats) refl refl (rw append-nil) (appends_none a.told) refl

    -- a datagram shows that a desk's file lacks lines, and the desk's own vote went back to it
    pub parted : (bytes back : List ℕ) (v : Vote) {later : Memory} {passed : Ticking} {notes : List Notice} {after : List Passed} → IsInTime ticking → passed ≡ ticking
        → taken < MOST_TAKEN → is_stopped memory.telling ≡ false → Says (game_of k) bytes (Message.Vote v) → Recalls (game_of k) memory.rounds (Message.Vote v) back
        → later ≡ memory_troubled memory (place_in bytes) Why.Anew → notes ≡ noted ++ Notice.Parted (place_in bytes) ∷ []
        → after ≡ a.passed ++ Came bytes ∷ Sent ToOne back ∷ []
        → BoardGoes content innings_of sheet k k (in_turn content k turns had taken memory ticking noted seen) (in_turn content k turns had (taken + 1) later passed notes seen)
        a (record a { passed = after })
    parted bytes back v beats stands few running says recalls tells notices passed =
        called (Parted bytes back) [] same_here (All-nil IsMessage)
        ((few, running, v, says, recalls), (refl, refl), (λ i. in_turn content k turns had (taken + 1) (tells i) (stands i) (notices i) seen), beats)
        passed refl (rw append-nil) (appends_none a.told) refl

    -- a datagram may show that a desk's file lacks lines, and the desk's own vote went back to it
    pub gone_back : (bytes back : List ℕ) (m : Message) {after : List Passed} → IsInTime ticking → taken < MOST_TAKEN → Says (game_of k) bytes m
        → PartsNothing (is_stopped memory.telling) m → Recalls (game_of k) memory.rounds m back → after ≡ a.passed ++ Came bytes ∷ Sent ToOne back ∷ []
        → BoardGoes content innings_of sheet k k (in_turn content k turns had taken memory ticking noted seen) (in_turn content k turns had (taken + 1) memory ticking noted seen)
        a (record a { passed = after })
    gone_back bytes back m beats few says nothing recalls passed =
        called (Recalled bytes back) [] same_here (All-nil IsMessage) ((few, m, says, nothing, recalls), (refl, refl), refl, beats)
        passed refl (rw append-nil) (appends_none a.told) refl

    -- a datagram came once the board had stopped
    pub passed_by : (bytes : List ℕ) → IsInTime ticking → taken < MOST_TAKEN → is_stopped memory.telling ≡ true → RecallsNone (game_of k) memory.rounds bytes
        → BoardGoes content innings_of sheet k k (in_turn content k turns had taken memory ticking noted seen) (in_turn content k turns had (taken + 1) memory ticking noted seen)
        a (record a { passed = a.passed ++ Came bytes ∷ [] })
    passed_by bytes beats few over kept =
        called (PassedBy bytes) [] same_here (All-nil IsMessage) ((few, over, kept), (refl, refl), refl, beats) refl refl (rw append-nil) (appends_none a.told) refl

    -- it told that the desks told it different lines
    pub told_apart : {later : Memory} {passed : Ticking} {notes : List Notice} → IsInTime ticking → passed ≡ ticking
        → IsApart (state_of content k).reader.position memory.later → is_some memory.telling.trouble ≡ false
        → later ≡ memory_troubled memory (state_of content k).reader.position.place Why.Apart
        → notes ≡ noted ++ Notice.Apart (state_of content k).reader.position.place ∷ []
        → BoardGoes content innings_of sheet k k (in_turn content k turns had taken memory ticking noted seen) (in_turn content k turns had taken later passed notes seen) a a
    told_apart beats stands apart untold tells notices =
        called ToldApart [] same_here (All-nil IsMessage)
        ((apart, untold), (refl, refl), (λ i. in_turn content k turns had taken (tells i) (stands i) (notices i) seen), beats)
        (rw append-nil) refl (rw append-nil) (appends_none a.told) refl

    -- a datagram came that doesn't open
    pub passed_over : {later : Memory} {passed : Ticking} {notes : List Notice} {after : List Passed} → IsInTime ticking → passed ≡ ticking → taken < MOST_TAKEN
        → later ≡ memory_unopened memory → notes ≡ notices_unopened memory.telling noted → after ≡ a.passed
        → BoardGoes content innings_of sheet k k (in_turn content k turns had taken memory ticking noted seen) (in_turn content k turns had (taken + 1) later passed notes seen)
        a (record a { passed = after })
    passed_over beats stands few tells notices is =
        called Unopened [] same_here (All-nil IsMessage)
        (few, (refl, refl), (λ i. in_turn content k turns had (taken + 1) (tells i) (stands i) (notices i) seen), beats)
        (rw (is, append-nil)) refl (rw append-nil) (appends_none a.told) refl

    -- it has looked at its clock
    pub looks : {n : List ℕ} {saw : Ticking} (now : ℕ) → IsInTime ticking → n ≡ a.readings ++ now ∷ [] → saw ≡ record ticking { looked = Some now }
        → BoardGoes content innings_of sheet k k (in_turn content k turns had taken memory ticking noted seen) (in_turn content k turns had taken memory saw noted seen)
        a (record a { readings = n })
    looks now beats times is =
        called (Looked now) [] same_here (All-nil IsMessage) (tt, (refl, refl), (λ i. in_turn content k turns had taken memory (is i) noted seen), beats)
        (rw append-nil) refl times (appends_none a.told) refl

    -- it has looked at its clock, and ticked
    pub speaks : {after : List Passed} {n : List ℕ} {said : Ticking} (now : ℕ) → IsInTime ticking → n ≡ a.readings ++ now ∷ [] → said ≡ after_look true ticking now
        → Asks content k a.passed after
        → BoardGoes content innings_of sheet k k (in_turn content k turns had taken memory ticking noted seen) (in_turn content k turns had taken memory said noted seen)
        a (record a { passed = after; readings = n })
    speaks now beats times is asked =
        then (looks now beats times refl)
        (called Ticked asked.out same_here asked.fine (tt, (asked.step, refl), (λ i. in_turn content k turns had taken memory (is i) noted seen), refl)
        asked.passed refl (rw append-nil) (appends_none a.told) refl)

    -- it has read its clock
    pub reads_clock : {n : List ℕ} (now : ℕ) → IsInTime ticking → n ≡ a.readings ++ now ∷ []
        → BoardGoes content innings_of sheet k k (in_turn content k turns had taken memory ticking noted seen) (in_turn content k turns had taken memory ticking noted seen)
        a (record a { readings = n })
    reads_clock now beats times =
        called (Read now) [] same_here (All-nil IsMessage) (tt, (refl, refl), refl, beats) (rw append-nil) refl times (appends_none a.told) refl

    -- its turn is over
    pub turn_over : {t : Option (List ℕ)} {rested : Ticking} {sees : List Sight} → IsSome ticking.looked → IsInTime ticking → rested ≡ record ticking { looked = None }
        → sees ≡ seen ++ sight_at content innings_of sheet k memory.telling.trouble ∷ []
        → Appends a.told t (shown sheet (innings_of (book_of k)) (in_turn content k turns had taken memory ticking noted seen) TurnEnded (at_turn content k (turns + 1) memory rested noted sees))
        → BoardGoes content innings_of sheet k k (in_turn content k turns had taken memory ticking noted seen) (at_turn content k (turns + 1) memory rested noted sees)
        a (record a { told = t })
    turn_over looked beats is sights text =
        called TurnEnded [] same_here (All-nil IsMessage)
        (tt, (refl, refl), (λ i. at_turn content k (turns + 1) memory (is i) noted (sights i)), (looked, beats)) (rw append-nil) refl (rw append-nil) text refl

  -- what was seen of its clock is unchanged
  pub unread : {turns had taken : ℕ} {memory : Memory} {ticking saw : Ticking} {noted : List Notice} {seen : List Sight} {a : Logs} → saw ≡ ticking
      → BoardGoes content innings_of sheet k k (in_turn content k turns had taken memory ticking noted seen) (in_turn content k turns had taken memory saw noted seen)
      a a
  unread is = rw is rests

  module _ {l : Board B g} {E : Type 0} {from to : ℕ} {memory : Memory} {ticking : Ticking}
      {noted notes : List Notice} {seen sees : List Sight} where
    -- a write failed
    pub stopped : (a b : Logs) {last : BoardTurn} (p : BoardTurn) (r : Result (Unit {0}) E) (fault : E) → IsErrAnd r (λ e. e ≡ fault) → last.board ≡ state_of content l → last.notices ≡ notes → last.seen ≡ sees
        → BoardGoes content innings_of sheet k l (at_turn content k from memory ticking noted seen) last (record a { told = None }) (record b { told = None })
        → (runs : BoardRuns content innings_of sheet k l a b from to memory ticking noted notes seen sees r) × OnOk r (runs.last ≡ p)
    stopped a b p (Ok done) fault h is notices sights v = absurd h
    stopped a b {last = last} p (Err e) fault h is notices sights v = (record { last = last; is = is; noticed = notices; sighted = sights; goes = v; whole = tt }, tt)

    -- all turns are over
    pub finished : {a b : Logs} {later : Memory} {rested : Ticking} (r : Result (Unit {0}) E)
        → BoardGoes content innings_of sheet k l (at_turn content k from memory ticking noted seen) (at_turn content l to later rested notes sees) a b
        → (runs : BoardRuns content innings_of sheet k l a b from to memory ticking noted notes seen sees r)
        × OnOk r (runs.last ≡ at_turn content l to later rested notes sees)
    finished {later = later} {rested = rested} (Ok done) v =
        (record { last = at_turn content l to later rested notes sees; is = refl; noticed = refl; sighted = refl; goes = v; whole = refl }, refl)
    finished {later = later} {rested = rested} (Err fault) v =
        (record { last = at_turn content l to later rested notes sees; is = refl; noticed = refl; sighted = refl; goes = silent v; whole = tt }, tt)

    -- a run of turns that are all over
    pub whole_turns : {a b : Logs} (p : BoardTurn) (r : Result (Unit {0}) E)
        (runs : BoardRuns content innings_of sheet k l a b from to memory ticking noted notes seen sees r) → OnOk r (runs.last ≡ p)
        → OnOk r (BoardGoes content innings_of sheet k l (at_turn content k from memory ticking noted seen) p (known_where r a) (known_where r b))
    whole_turns {a = a} {b = b} p (Ok done) runs e = subst (λ (p : BoardTurn). BoardGoes content innings_of sheet k l (at_turn content k from memory ticking noted seen) p a b) e runs.goes
    whole_turns p (Err fault) runs e = tt

  -- what is printed first comes before the run, with a reading of the clock
  shown_first : {E : Type 0} {noted : List Notice} {seen : List Sight} (a : Logs) {readings : List ℕ} (r : Result (Unit {0}) E) (t : Option (List ℕ)) (text : List ℕ) (now : ℕ)
      → readings ≡ a.readings ++ now ∷ [] → Appends a.told t text
      → BoardGoes content innings_of sheet k k (at_turn content k 0 unheard unticked noted seen) (at_turn content k 0 unheard unticked noted seen)
      (known_where r (with_told a text)) (known_where r (record a { readings = readings; told = t }))
  shown_first a (Ok done) t text now times first =
      then (record {
        same = same_here;
        goes = record { moments = []; run = tt; last = refl; logs = none_logged (told_first a.told t text first) };
      }) (reads_clock {ticking = unticked} now tt times)
  shown_first a (Err fault) t text now times first = reads_clock {ticking = unticked} now tt times

  -- its first lines are printed and its book is handed over, and then it runs
  pub lives_on : {l : Board B g} {E : Type 0} (a : Logs) {b : Logs} {readings : List ℕ} {t : Option (List ℕ)} {to : ℕ} {noted notes : List Notice} {seen had sees : List Sight}
      (r : Result (Unit {0}) E) (now : ℕ) → readings ≡ a.readings ++ now ∷ [] → Appends a.told t (board_text sheet (innings_of (book_of k)) (history_of (content (book_of k))))
      → had ≡ seen ++ sight_at content innings_of sheet k None ∷ []
      → BoardRuns content innings_of sheet k l (record a { readings = readings; told = t }) b 0 to unheard unticked noted notes had sees r
      → BoardLives content innings_of sheet k l a b to noted notes seen sees r
  lives_on a {t = t} r now times text is v = record {
    first = sight_at content innings_of sheet k None ∷ [];
    shows_first = inl refl;
    runs = rw (← is) (record {
      last = v.last;
      is = v.is;
      noticed = v.noticed;
      sighted = v.sighted;
      goes = then (shown_first a r t _ now times text) v.goes;
      whole = v.whole;
    });
  }

  -- printing or handing over at the beginning failed
  pub not_begun : {E failed : Type 0} (a : Logs) {readings : List ℕ} {t : Option (List ℕ)} {to : ℕ} {noted : List Notice} {seen sees : List Sight}
      (r : Result (Unit {0}) E) (fault : E) (now : ℕ) → IsErrAnd r (λ e. e ≡ fault) → readings ≡ a.readings ++ now ∷ []
      → (sees ≡ seen ++ sight_at content innings_of sheet k None ∷ []) ⊎ ((sees ≡ seen) × failed)
      → BoardLives content innings_of sheet k k a (record a { readings = readings; told = t }) to noted noted seen sees r
  not_begun a (Ok done) fault now h times seen = absurd h
  not_begun {E = E} a {readings = readings} {t = t} {to = to} {noted = noted} {seen = seen} {sees = sees} (Err e) fault now h times began =
      let failed : Result (Unit {0}) E = Err e in
      let Lives : Type 0 = BoardLives content innings_of sheet k k a (record a { readings = readings; told = t }) to noted noted seen sees failed in
      let ends : (first : List Sight) → (first ≡ sight_at content innings_of sheet k None ∷ []) ⊎ ((first ≡ []) × IsErr failed) → seen ++ first ≡ sees → Lives = λ first shows is.
      let last = at_turn content k 0 unheard unticked noted (seen ++ first) in
      record {
        first = first;
        shows_first = shows;
        runs = (stopped _ (record a { readings = readings; told = t }) {last = last} last failed fault h refl refl is (reads_clock {ticking = unticked} now tt times)).0;
      } in
      ⊎_elim (λ is. ends _ (inl refl) (sym is)) (λ is. ends [] (inr (refl, refl)) (append-nil seen ∙ sym is.0)) began
