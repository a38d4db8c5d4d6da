-- Runs of a desk.
use Rattle.std.proofs.Common.{◌≡◌, ◌≤◌, ◌+◌, ℕ, List, [], ◌∷◌, ◌++◌, None, Some, Option, Result, Ok, Err}
use Rattle.std.proofs.Common.{Bool, true, false, refl, sym, ap, ◌∙◌, subst, append-nil, append_assoc, arith, length, map, All}
use Rattle.std.specs.Prelude.{IsErrOf, IsErrAnd, IsSome, is_some, nat_lt, option_to_list}
use Rattle.std.specs.Bool.{⊤}
use Rattle.std.specs.Io.KnownBytes.{Appends, Keeps}
use Rattle.std.proofs.lemmas.List.Elements.{All-nil}
use Rattle.streams.proofs.Appending.{appends_kept, appends_none}
use Rattle.cards.specs.Sheet.{Sheet}
use Rattle.notation.specs.declared.entry.Entry.{Entry}
use Rattle.corrections.specs.declared.book_of.BookOf.{Ghosts as Books}
use Rattle.entry_log.specs.Blame.{BlamesDisk}
use Rattle.entry_log.specs.Disk.{Faults}
use Rattle.entry_log.specs.declared.{disk.Disk.Ghosts as Disks, slots_of.SlotsOf.Ghosts as Files}
use Rattle.agree_core.specs.declared.messages.Message.{Message}
use Rattle.agree_core.specs.Ballots.{Ballot}
use Rattle.agree_core.specs.Desks.{Pens, Ticks}
use Rattle.vote_store.specs.View.{file_view}
use Rattle.wire.specs.Layout.{IsMessage, written}
use Rattle.wire.specs.Sent.{AreSent}
use Rattle.wire.specs.declared.what.What.{What}
use Rattle.desk.specs.Answers.{device_answer, pen_answer, replied, sent}
use Rattle.desk.specs.declared.{desk.Desk.Desk, desk.Penned.Penned, refusal.Refusal.Refusal}
use Rattle.desk.specs.Desk.{SameOwner, disk_of, game_of, rules_of, state_of, view_of, own_votes}
use Rattle.desk.specs.Takes.{Takes}
use Rattle.links.specs.Passed.{Passed, Came, Sent, sends, sent_to}
use Rattle.links.specs.declared.link.Receivers.TheVariants.{ToAll, ToOne}
use Rattle.live.specs.Runs.{Goes, Logs}
use Rattle.station_texts.specs.Saying.{ComesTo, SaysEntry}
use Rattle.links.specs.Typing.{Input, Line, End}
use Rattle.links.specs.declared.aside.Aside.{Aside}
use Rattle.station_texts.specs.Asides.{aside_text}
use Rattle.station_texts.specs.Doubts.{holds_up}
use Rattle.screen.specs.declared.told.Told.{Told}
use Rattle.station_texts.specs.ToldValues.{aside_told, came_told, reminder_told, said_told, unopened_told}
use Rattle.station_texts.specs.Texts.{came_text, reminder_text, said_text, unopened_text, warned_after, warned_reminded, warned_said, warned_unopened}
use Rattle.live.specs.Ends.{Course, course_of, end_at, end_of, ending, further, known_at, known_in, known_until, turns_after}
use Rattle.live.specs.Desks.{Blames, disks_of, Calls, DeskCall, DeskGoes, DeskProcess, DeskStep, Given, FitsLongest, MayCall, MayRemind, MaySay, Looked, Read, Reminded, Ticked, ToldAside, TurnEnded, Typed}
use Rattle.live.specs.Desks.{TypingEnded, Unopened, after_call, beat_of, course_after, desk_kind, entry_in, given, innings_of, kind_of, own_line, process_of, receivers_of, shown_by, tells_of, told_of, typed}
use Rattle.live.specs.Ticks.{IsInTime, MayBeat, Ticking, after_look, reads}
use Rattle.live.specs.declared.ends.DeskEnd.{DeskEnd}
use Rattle.station_texts.specs.declared.{reminder.Reminder.Reminder, said.Said.Said, warned.Warned.Warned}
use Rattle.live.proofs.RunLemmas.{both, one, retold, stays, unsaid}

-- no device call failed
pub blameless : {W : Type 0} (course : Course) (old new : Faults) → (IsErrOf course DeskEnd.Device → ⊥) → new ≡ old
    → BlamesDisk DeskEnd.Device W course old new
blameless course old new n same =
    record { failed = λ e. absurd (n e); same = λ m. same; calm = λ due room e. n e; spent = λ due room e. absurd (n e) }

-- another answer with the same blame
pub blamed : {T E V W : Type 0} (r : Result T E) (device : E) (course : Course) (old new : Faults) → (IsErrOf course DeskEnd.Device → IsErrOf r device)
    → (IsErrOf r device → IsErrOf course DeskEnd.Device) → (IsErrOf r device → W → V) → BlamesDisk device V r old new
    → BlamesDisk DeskEnd.Device W course old new
blamed r device course old new to from room b = record {
  failed = λ e. b.failed (to e);
  same = λ n. b.same (λ e. n (from e));
  calm = λ due w e. b.calm due (room (to e) w) (to e);
  spent = λ due w e. b.spent due (room (to e) w) (to e);
}

module _ {S B D : Type 0} {g : Files S D} {h : Disks D} {b : Books B} where
  pub same_here : (k : Desk S B D g h b) → SameOwner k k
  same_here k = record { desk = refl; game = refl; innings_a_side = refl; cap = refl }

  -- runs of the same desk are of one kind
  kind_stays : (sheet : Sheet) (k l : Desk S B D g h b) → SameOwner k l → kind_of sheet l ≡ kind_of sheet k
  kind_stays sheet k l x = λ i.
      desk_kind sheet (file_view g.contents h.seen h.images (x.desk i) (x.game i)) (record { faults = h.faults; FitsLongest = FitsLongest g.room (x.cap i) })
      (x.game i) (x.innings_a_side i)

  pub rests : {sheet : Sheet} {k : Desk S B D g h b} {p : DeskProcess D} {a : Logs} → DeskGoes sheet k k p p a a
  rests {k = k} = record { same = same_here k; goes = stays }

  module _ {sheet : Sheet} {k l : Desk S B D g h b} {p q : DeskProcess D} {a c : Logs} where
    pub then : {m : Desk S B D g h b} {r : DeskProcess D} {e : Logs} → DeskGoes sheet k l p q a c → DeskGoes sheet l m q r c e → DeskGoes sheet k m p r a e
    then {r = r} {e = e} v w =
        let next = subst (λ kind. Goes kind q r c e) (kind_stays sheet k l v.same) w.goes in
        record {
          same = record {
            desk = w.same.desk ∙ v.same.desk;
            game = w.same.game ∙ v.same.game;
            innings_a_side = w.same.innings_a_side ∙ v.same.innings_a_side;
            cap = w.same.cap ∙ v.same.cap;
          };
          goes = both v.goes next;
        }

    pub silent : DeskGoes sheet k l p q a c → DeskGoes sheet k l p q (record a { told = None }) (record c { told = None })
    silent v = record { same = v.same; goes = unsaid v.goes }

    -- the log may be given by an equal one
    pub logged : {after : List Passed} → c.passed ≡ after → DeskGoes sheet k l p q a c → DeskGoes sheet k l p q a (record c { passed = after })
    logged e v = rw (← e) v

    -- a flush leaves what was written
    pub kept : {u : Option (List ℕ)} → DeskGoes sheet k l p q a c → Keeps c.told u → DeskGoes sheet k l p q a (record c { told = u })
    kept {u = u} v w =
        let z = v.goes in
        let text = appends_kept a.told c.told u _ z.logs.printed w in
        record { same = v.same; goes = record { moments = z.moments; run = z.run; last = z.last; logs = retold z.logs text } }

  -- one call
  called : {sheet : Sheet} {k l : Desk S B D g h b} (call : DeskCall) {warned : Warned} {turns : ℕ} {ticking : Ticking} {q : DeskProcess D} {a c : Logs} {before : List Passed}
      → MayCall (process_of k warned turns ticking further) call → MayBeat ticking (beat_of call) → Calls sheet k l call before c.passed
      → before ≡ a.passed ++ given call → c.typed ≡ a.typed ++ typed call → c.readings ≡ a.readings ++ reads (beat_of call)
      → q ≡ after_call (process_of k warned turns ticking further) call (state_of l)
      → Appends a.told c.told (told_of sheet (innings_of k) (process_of k warned turns ticking further) call q)
      → c.tellings ≡ a.tellings ++ tells_of (process_of k warned turns ticking further) call
      → DeskGoes sheet k l (process_of k warned turns ticking further) q a c
  called {k = k} call {a = a} may beats calls came types times is text tells =
      let out = sends (receivers_of call) (game_of k) calls.out in
      let path = calls.passed ∙ (ap (λ (xs : List Passed). xs ++ out) came ∙ append_assoc a.passed (given call) out) in
      record { same = calls.same; goes = rw is (one call calls.out calls.fine (refl, calls.step, calls.blame, refl, may, beats) path types times (rw is at text) tells) }

  module _ {sheet : Sheet} {k l : Desk S B D g h b} {warned : Warned} {turns : ℕ} {ticking : Ticking} {a : Logs} where
    -- its scorer typed a line
    pub says : {line : List ℕ} (answer : Said) {course : Course} {later : Warned} {after : List Passed} {y : List Input} {t : Option (List ℕ)} {v : List Told}
        → IsInTime ticking → MaySay (holds_up warned.doubt) answer → Calls sheet k l (Typed line answer) a.passed after
        → y ≡ a.typed ++ Line line ∷ [] → later ≡ warned_said warned answer → course ≡ end_of answer
        → Appends a.told t (said_text sheet (innings_of k) (state_of k).seat.position (own_line (state_of k)) (state_of k).seat.theirs warned (state_of l).book answer)
        → v ≡ a.tellings ++ option_to_list (said_told (state_of k).seat.position (state_of k).seat.theirs answer)
        → DeskGoes sheet k l (process_of k warned turns ticking further) (process_of l later turns ticking course) a
        (record a { passed = after; typed = y; told = t; tellings = v })
    says answer beats may c types tells is text values = called (Typed _ answer) {ticking = ticking} may beats c (rw append-nil) types (rw append-nil) (rw (tells, is)) text values

    -- a typed line at which the process ends
    pub says_last : {line : List ℕ} (answer : Said) (end : DeskEnd) {later : Warned} {after : List Passed} {y : List Input} → IsInTime ticking
        → MaySay (holds_up warned.doubt) answer → Calls sheet k l (Typed line answer) a.passed after → y ≡ a.typed ++ Line line ∷ []
        → later ≡ warned_said warned answer → end_of answer ≡ Err end
        → DeskGoes sheet k l (process_of k warned turns ticking further) (process_of l later turns ticking (ending end)) a
        (record a { passed = after; typed = y })
    says_last answer end beats may c types tells e =
        says answer beats may c types tells (grind arith) (grind (arith, appends_none)) (grind (arith, append-nil))

    -- it was given a datagram
    pub hears : {bytes : List ℕ} (what : What) {course : Course} {later : Warned} {heard : Ticking} {before after : List Passed} {t : Option (List ℕ)} {v : List Told}
        → IsInTime ticking → heard ≡ ticking → Calls sheet k l (Given bytes what) before after
        → before ≡ a.passed ++ Came bytes ∷ [] → later ≡ warned_after warned (shown_by (state_of k) bytes what) what → course ≡ end_at what
        → Appends a.told t (came_text sheet (innings_of k) (state_of k).seat.position.place (own_line (state_of k)) (entry_in bytes) (state_of l).book warned (shown_by (state_of k) bytes what) what)
        → v ≡ a.tellings ++ option_to_list (came_told (state_of k).seat.position.place (own_line (state_of k)) (entry_in bytes) warned (shown_by (state_of k) bytes what) what)
        → DeskGoes sheet k l (process_of k warned turns ticking further) (process_of l later turns heard course) a (record a { passed = after; told = t; tellings = v })
    hears what beats same c came tells is text values = called (Given _ what) {ticking = ticking} tt beats c came (rw append-nil) (rw append-nil) (rw (tells, same, is)) text values

    -- a datagram at which the process ends
    pub hears_last : {bytes : List ℕ} (what : What) (end : DeskEnd) {later : Warned} {heard : Ticking} {before after : List Passed} → IsInTime ticking
        → heard ≡ ticking → Calls sheet k l (Given bytes what) before after → before ≡ a.passed ++ Came bytes ∷ [] → later ≡ warned_after warned (shown_by (state_of k) bytes what) what → end_at what ≡ Err end
        → DeskGoes sheet k l (process_of k warned turns ticking further) (process_of l later turns heard (ending end)) a (record a { passed = after })
    hears_last what end beats same c came tells e =
        hears what beats same c came tells (grind arith) (grind (arith, appends_none)) (grind (arith, append-nil))

  unmoved : {sheet : Sheet} {k : Desk S B D g h b} (call : DeskCall) {log : List Passed}
      → DeskStep sheet (view_of k) (game_of k) (innings_of k) (state_of k) call [] (state_of k) → (IsErrOf (course_after (state_of k) call) DeskEnd.Device → ⊥)
      → Calls sheet k k call log log
  unmoved {k = k} call step n = record {
    same = same_here k;
    out = [];
    fine = All-nil IsMessage;
    passed = rw append-nil;
    step = step;
    blame = λ runs. blameless (course_after (state_of k) call) _ _ n refl;
  }

  module _ {sheet : Sheet} {k : Desk S B D g h b} {warned : Warned} {turns : ℕ} {ticking : Ticking} {a : Logs} where
    -- a datagram came that doesn't open
    pub passes : {later : Warned} {passed : Ticking} {course : Course} {t : Option (List ℕ)} {v : List Told} → IsInTime ticking → passed ≡ ticking
        → later ≡ warned_unopened warned → course ≡ further → Appends a.told t (unopened_text warned) → v ≡ a.tellings ++ option_to_list (unopened_told warned)
        → DeskGoes sheet k k (process_of k warned turns ticking further) (process_of k later turns passed course) a (record a { told = t; tellings = v })
    passes beats same tells is text values =
        called Unopened {ticking = ticking} tt beats (unmoved Unopened (refl, refl) (λ e. (cc))) (rw append-nil) (rw append-nil) (rw append-nil) (rw (tells, same, is)) text values

    -- its scorer is given a reminder about the other desk
    pub reminds : (reminder : Reminder) {later : Warned} {told : Ticking} {course : Course} {t : Option (List ℕ)} {v : List Told} → IsInTime ticking → told ≡ ticking
        → MayRemind (process_of k warned turns ticking further) reminder
        → later ≡ warned_reminded warned reminder → course ≡ further → Appends a.told t (reminder_text (state_of k).seat.position.place reminder)
        → v ≡ a.tellings ++ reminder_told (state_of k).seat.position.place reminder ∷ []
        → DeskGoes sheet k k (process_of k warned turns ticking further) (process_of k later turns told course) a (record a { told = t; tellings = v })
    reminds reminder beats same may tells is text values =
        called (Reminded reminder) {ticking = ticking} may beats (unmoved (Reminded reminder) (refl, refl) (λ e. (cc))) (rw append-nil) (rw append-nil) (rw append-nil)
        (rw (tells, same, is)) text values

    -- its scorer is told of lines that the desk isn't given
    pub tells_aside : (aside : Aside) {course : Course} {y : List Input} {t : Option (List ℕ)} {v : List Told} → IsInTime ticking → y ≡ a.typed → course ≡ further → Appends a.told t (aside_text sheet.columns aside)
        → v ≡ a.tellings ++ option_to_list (aside_told aside)
        → DeskGoes sheet k k (process_of k warned turns ticking further) (process_of k warned turns ticking course) a
        (record a { typed = y; told = t; tellings = v })
    tells_aside aside beats types is text values =
        called (ToldAside aside) {ticking = ticking} tt beats (unmoved (ToldAside aside) (refl, refl) (λ e. (cc))) (rw append-nil) (rw (append-nil, types)) (rw append-nil) (rw is) text values

    -- its scorer's input is over
    pub typing_over : {y : List Input} → IsInTime ticking → y ≡ a.typed ++ End ∷ []
        → DeskGoes sheet k k (process_of k warned turns ticking further) (process_of k warned turns ticking (Err DeskEnd.NoMoreLines)) a
        (record a { typed = y })
    typing_over beats types =
        called TypingEnded {ticking = ticking} tt beats (unmoved TypingEnded (refl, refl) (λ e. (cc))) (rw append-nil) types (rw append-nil) refl (appends_none a.told) (rw append-nil)

    -- it has looked at its clock
    pub looks : {n : List ℕ} {seen : Ticking} (now : ℕ) → IsInTime ticking → n ≡ a.readings ++ now ∷ [] → seen ≡ record ticking { looked = Some now }
        → DeskGoes sheet k k (process_of k warned turns ticking further) (process_of k warned turns seen further) a (record a { readings = n })
    looks now beats times is =
        called (Looked now) {ticking = ticking} tt beats (unmoved (Looked now) (refl, refl) (λ e. (cc))) (rw append-nil) (rw append-nil) times (rw is) (appends_none a.told) (rw append-nil)

    -- what was seen of its clock is unchanged
    pub unread : {seen : Ticking} → seen ≡ ticking
        → DeskGoes sheet k k (process_of k warned turns ticking further) (process_of k warned turns seen further) a a
    unread is = rw is rests

    -- it has looked at its clock, and ticked
    pub speaks : {after : List Passed} {n : List ℕ} {said : Ticking} (now : ℕ) → IsInTime ticking → n ≡ a.readings ++ now ∷ [] → said ≡ after_look true ticking now
        → Calls sheet k k Ticked a.passed after
        → DeskGoes sheet k k (process_of k warned turns ticking further) (process_of k warned turns said further) a (record a { passed = after; readings = n })
    speaks now beats times is c =
        then (looks now beats times refl)
        (called Ticked {ticking = record { ticked = ticking.ticked; looked = Some now }} tt refl c (rw append-nil) (rw append-nil) (rw append-nil) (rw is) (appends_none a.told) (rw append-nil))

    -- it has read its clock
    pub reads_clock : {n : List ℕ} {seen : Ticking} (now : ℕ) → IsInTime ticking → n ≡ a.readings ++ now ∷ [] → seen ≡ ticking
        → DeskGoes sheet k k (process_of k warned turns ticking further) (process_of k warned turns seen further) a (record a { readings = n })
    reads_clock now beats times is =
        called (Read now) {ticking = ticking} tt beats (unmoved (Read now) (refl, refl) (λ e. (cc))) (rw append-nil) (rw append-nil) times (rw is) (appends_none a.told) (rw append-nil)

  -- ---- the calls themselves

  -- a line that says no entry
  pub unpenned : (sheet : Sheet) (k : Desk S B D g h b) (line : List ℕ) (answer : Said) (log : List Passed)
      → ComesTo sheet (state_of k).book (state_of k).votes (nat_lt 0 (state_of k).seat.position.round) (is_some (state_of k).seat.mine) line answer
      → Calls sheet k k (Typed line answer) log log
  unpenned sheet k line answer log w = unmoved {sheet = sheet} (Typed line answer) (grind arith) (λ e. grind arith)

  -- a line that says an entry, at a desk that doubts its file and casts no vote
  pub withheld : (sheet : Sheet) (k : Desk S B D g h b) (line : List ℕ) (e : Entry) (log : List Passed)
      → SaysEntry sheet (state_of k).book (state_of k).votes (state_of k).seat.position.round line e → Calls sheet k k (Typed line Said.Withheld) log log
  withheld sheet k line e log says = unmoved {sheet = sheet} (Typed line Said.Withheld) ((e, says), refl, refl) (λ e. (cc))

  abbrev PenStep : Desk S B D g h b → Entry → Result Penned Refusal → Desk S B D g h b → Type 0
  PenStep k e r l = AreSent (game_of k) (sent r) (λ out. Pens (view_of k) (rules_of k) (state_of k) e (pen_answer r) (state_of l) out)

  abbrev PenBlame : Desk S B D g h b → Result Penned Refusal → Desk S B D g h b → Type 0
  PenBlame k r l =
      BlamesDisk Refusal.Device (g.room (length (own_votes k) + 1) ≤ h.cap (disk_of k)) r (h.faults (disk_of k)) (h.faults (disk_of l))

  abbrev DeskBlame : Desk S B D g h b → Course → Desk S B D g h b → Type 0
  DeskBlame k course l = BlamesDisk DeskEnd.Device (FitsLongest g.room (h.cap (disk_of k))) course (h.faults (disk_of k)) (h.faults (disk_of l))

  -- a call that sent these messages as these bytes
  calls_with : {sheet : Sheet} {k l : Desk S B D g h b} (call : DeskCall) (bytes : List (List ℕ)) (out : List Message) {before after : List Passed} → SameOwner k l
      → All IsMessage out → bytes ≡ map (written (game_of k)) out → after ≡ before ++ sent_to (receivers_of call) bytes
      → DeskStep sheet (view_of k) (game_of k) (innings_of k) (state_of k) call out (state_of l) → Blames (disks_of k) (state_of k) call (state_of l)
      → Calls sheet k l call before after
  calls_with call bytes out {before = before} same fine e passed step blame = record {
    same = same;
    out = out;
    fine = fine;
    passed = passed ∙ ap (λ (xs : List (List ℕ)). before ++ sent_to (receivers_of call) xs) e;
    step = step;
    blame = blame;
  }

  -- the entry is penned
  pub penned : (sheet : Sheet) (k l : Desk S B D g h b) (line : List ℕ) (e : Entry) (p : Penned) (before after : List Passed) → SameOwner k l
      → SaysEntry sheet (state_of k).book (state_of k).votes (state_of k).seat.position.round line e
      → PenStep k e (Ok p) l → PenBlame k (Ok p) l → after ≡ before ++ Sent ToAll p.send ∷ [] → Calls sheet k l (Typed line (Said.Penned e p.settled)) before after
  penned sheet k l line e p before after same says step blame sent' =
      calls_with (Typed line (Said.Penned e p.settled)) (p.send ∷ []) step.0 same step.1 step.2 sent' (says, step.3)
      (λ runs. blameless (end_of (Said.Penned e p.settled)) _ _ (λ q. (cc)) (blame.same (λ q. (cc))))

  -- a refusal blames the disk as the pen did
  refuses : (k l : Desk S B D g h b) (e : Entry) (why : Refusal) (out : List Message) → (state_of k).failed ≡ false
      → Pens (view_of k) (rules_of k) (state_of k) e (pen_answer (Err why)) (state_of l) out → PenBlame k (Err why) l
      → DeskBlame k (end_of (Said.Refused e why)) l
  refuses k l e Refusal.Device out runs r blame =
      let failed : Result Penned Refusal = Err Refusal.Device in
      blamed failed Refusal.Device (Err DeskEnd.Device) _ _ (λ q. refl) (λ q. refl) (λ q room. room (length (own_votes k) + 1) (omega (arith, r.0.1.1))) blame
  refuses k l e Refusal.Failed out runs r blame = absurd (let path : true ≡ false = sym r.0 ∙ runs in (cc))
  refuses k l e why out runs r blame = blameless further _ _ (λ q. (cc)) (blame.same (λ q. (cc)))

  pub refused : (sheet : Sheet) (k l : Desk S B D g h b) (line : List ℕ) (e : Entry) (why : Refusal) (log : List Passed) → SameOwner k l
      → SaysEntry sheet (state_of k).book (state_of k).votes (state_of k).seat.position.round line e
      → PenStep k e (Err why) l → PenBlame k (Err why) l → Calls sheet k l (Typed line (Said.Refused e why)) log log
  refused sheet k l line e why log same says step blame =
      calls_with (Typed line (Said.Refused e why)) [] step.0 same step.1 step.2 (rw append-nil) (says, step.3) (λ runs. refuses k l e why step.0 runs step.3 blame)

  -- the desk's answer to a datagram blames the disk as the call did
  answers : (k l : Desk S B D g h b) (bytes : List ℕ) (what : What) (out : List Message) → (state_of k).failed ≡ false
      → Takes (view_of k) (game_of k) (state_of k) bytes what (state_of l) out
      → BlamesDisk What.Device ⊤ (device_answer what) (h.faults (disk_of k)) (h.faults (disk_of l)) → DeskBlame k (end_at what) l
  answers k l bytes What.Device out runs r blame =
      blamed (device_answer What.Device) What.Device (Err DeskEnd.Device) _ _ (λ q. refl) (λ q. refl) (λ q room. tt) blame
  answers k l bytes What.Failed out runs r blame = absurd (let path : true ≡ false = sym r.0 ∙ runs in (cc))
  answers k l bytes (What.Heard h) out runs r blame = blameless (end_at (What.Heard h)) _ _ (λ e. (cc)) (blame.same (λ q. (cc)))
  answers k l bytes what out runs r blame = blameless further _ _ (λ q. (cc)) (blame.same (λ q. (cc)))

  pub taken : (sheet : Sheet) (k l : Desk S B D g h b) (bytes : List ℕ) (what : What) (reply : Option (List ℕ)) (before after : List Passed) → SameOwner k l
      → AreSent (game_of k) (replied reply) (λ out. Takes (view_of k) (game_of k) (state_of k) bytes what (state_of l) out)
      → BlamesDisk What.Device ⊤ (device_answer what) (h.faults (disk_of k)) (h.faults (disk_of l)) → after ≡ before ++ sent_to ToOne (replied reply)
      → Calls sheet k l (Given bytes what) before after
  taken sheet k l bytes what reply before after same step blame sent' =
      calls_with (Given bytes what) (replied reply) step.0 same step.1 step.2 sent' step.3 (λ runs. answers k l bytes what step.0 runs step.3 blame)

  pub ticked : (sheet : Sheet) (k : Desk S B D g h b) (bytes : List (List ℕ)) (before after : List Passed) → AreSent (game_of k) bytes (Ticks (state_of k))
      → after ≡ before ++ sent_to ToAll bytes → Calls sheet k k Ticked before after
  ticked sheet k bytes before after step sent' =
      calls_with Ticked bytes step.0 (same_here k) step.1 step.2 sent' (step.3, refl) (λ runs. blameless further _ _ (λ q. (cc)) refl)

  -- ---- runs whose text is known only if no write failed

  module _ {sheet : Sheet} {k l : Desk S B D g h b} {p : DeskProcess D} {a c : Logs} where
    -- what was told so far is known only if no later write failed
    pub muted : {T : Type 0} (r : Result T DeskEnd) {q : DeskProcess D} → DeskGoes sheet k l p q a c → DeskGoes sheet k l p q (known_in r a) (known_in r c)
    muted (Err DeskEnd.Write) v = silent v
    muted r v = v

    -- a turn is over
    pub turn_done : {warned : Warned} {turns : ℕ} {ticking rested : Ticking} {u : Option (List ℕ)} → IsSome ticking.looked → IsInTime ticking
        → rested ≡ record ticking { looked = None } → DeskGoes sheet k l p (process_of l warned turns ticking further) a c → Keeps c.told u
        → DeskGoes sheet k l p (process_of l warned (turns + 1) rested further) a (record c { told = u })
    turn_done {ticking = ticking} {u = u} looked beats is v w =
        then (kept v w) (called TurnEnded {ticking = ticking} tt (looked, beats) (unmoved TurnEnded (refl, refl) (λ e. (cc)))
        (rw append-nil) (rw append-nil) (rw append-nil) (rw is) (appends_none u) (rw append-nil))

    -- the flush at the end of a turn failed
    pub not_flushed : {T : Type 0} (r : Result T DeskEnd) (met : DeskEnd) {warned : Warned} {turns : ℕ} {ticking : Ticking} (u : Option (List ℕ))
        → IsErrAnd r (λ end. end ≡ met) → met ≡ DeskEnd.Write → DeskGoes sheet k l p (process_of l warned turns ticking further) a c
        → DeskGoes sheet k l p (process_of l warned (turns_after turns r) ticking (course_of r)) (known_in r a) (record c { told = known_at r u })
    not_flushed (Ok value) met u e w v = absurd e
    not_flushed (Err end) met u e w v = rw (e, w) (silent v)

  -- an error that is passed on
  pub passed_on : {sheet : Sheet} {k l : Desk S B D g h b} {p : DeskProcess D} (a c : Logs) {T : Type 0} (r : Result T DeskEnd) (met : DeskEnd)
      {later : Warned} {turns : ℕ} {ticking : Ticking} → IsErrAnd r (λ end. end ≡ met)
      → DeskGoes sheet k l p (process_of l later turns ticking (ending met)) (known_until met a) (known_until met c)
      → DeskGoes sheet k l p (process_of l later turns ticking (course_of r)) (known_in r a) (known_in r c)
  passed_on a c (Ok value) met e v = absurd e
  passed_on a c (Err end) met e v = rw e v

-- a line that says no entry may get this answer, whatever the desk doubts
pub may_come : (sheet : Sheet) (book : List Entry) (votes : List Ballot) (differs is_cast : Bool) (line : List ℕ) (said : Said) (doubts : Bool)
    → ComesTo sheet book votes differs is_cast line said → MaySay doubts said
may_come sheet book votes differs is_cast line said doubts h = grind arith

-- an error that is passed on in a turn
pub turn_passed_on : {T : Type 0} (r : Result T DeskEnd) (met : DeskEnd) (turns : ℕ) (P : ℕ → Course → (Logs → Logs) → Type 0)
    → IsErrAnd r (λ end. end ≡ met) → P turns (ending met) (known_until met) → P (turns_after turns r) (course_of r) (known_in r)
turn_passed_on r met turns P h x = grind arith
