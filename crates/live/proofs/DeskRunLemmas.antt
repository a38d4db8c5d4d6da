-- Whole runs of a desk's process.
use Rattle.std.proofs.Common.{arith, ◌≡◌, ◌∷◌, ◌++◌, ℕ, List, [], Option, Result, Ok, Err, false, refl, subst}
use Rattle.std.specs.Prelude.{IsErrAnd}
use Rattle.std.specs.Io.KnownBytes.{Appends, Keeps}
use Rattle.cards.specs.Sheet.{Sheet}
use Rattle.streams.specs.declared.watched.WriteFailed.{WriteFailed}
use Rattle.corrections.specs.declared.book_of.BookOf.{Ghosts as Books}
use Rattle.entry_log.specs.Blame.{BlamesDisk}
use Rattle.entry_log.specs.declared.{disk.Disk.Ghosts as Disks, slots_of.SlotsOf.Ghosts as Files}
use Rattle.agree_core.specs.Desks.{DeskState}
use Rattle.desk.specs.declared.desk.Desk.{Desk}
use Rattle.desk.specs.Desk.{disk_of, game_of, state_of, view_of}
use Rattle.live.specs.Runs.{Logs}
use Rattle.screen.specs.declared.told.Told.{Told}
use Rattle.screen.specs.declared.told.Told.TheVariants.{Stands}
use Rattle.station_texts.specs.Texts.{greeting, unwarned}
use Rattle.live.specs.Ticks.{Ticking, unticked}
use Rattle.live.specs.Ends.{Course, end_told, ending, further, known_until, written}
use Rattle.live.specs.Desks.{DeskGoes, DeskProcess, DeskRuns, Ended, FitsLongest, disks_of, innings_of, own_line, process_of, with_greeting}
use Rattle.live.specs.declared.ends.DeskEnd.{DeskEnd}
use Rattle.station_texts.specs.declared.warned.Warned.{Warned}
use Rattle.live.proofs.DeskLemmas.{kept, muted, rests, same_here, silent, then}
use Rattle.live.proofs.EndLemmas.{answer_blames, run_blames}
use Rattle.live.proofs.RunLemmas.{none_logged}
use Rattle.live.proofs.TellingLemmas.{told_first}

ended_at : {Disk : Type 0} (met : DeskEnd) (turns : ℕ) (last : DeskProcess Disk) → last.course ≡ ending met → Ended turns (Err met) last
ended_at met turns last e = grind arith

not_the_disk : {Disk : Type 0} (turns : ℕ) (r : Course) (last : DeskProcess Disk) → Ended turns r last → (r ≡ Err DeskEnd.Device → ⊥) → last.course ≡ Err DeskEnd.Device → ⊥
not_the_disk turns r last is n e = grind arith

module _ {S B D : Type 0} {g : Files S D} {h : Disks D} {b : Books B} where
  abbrev greeting_of : Sheet → Desk S B D g h b → List ℕ
  greeting_of sheet k = greeting sheet (innings_of k) (state_of k).book (state_of k).seat.position (own_line (state_of k))

  -- the greeting couldn't be written
  pub not_greeted : {sheet : Sheet} {k : Desk S B D g h b} {turns : ℕ} {a : Logs} {t : Option (List ℕ)} {v : List Told}
      (r : Result (Unit {0}) DeskEnd) (met : DeskEnd) → IsErrAnd r (λ end. end ≡ met) → met ≡ DeskEnd.Write → v ≡ a.tellings ++ Stands ∷ []
      → DeskRuns sheet k k a (record a { told = t; tellings = v }) turns r
  not_greeted (Ok done) met e w told = absurd e
  not_greeted {k = k} (Err end) met e w told =
      rw (e, w, told) (record { last = process_of k unwarned 0 unticked further; is = refl; goes = rests; ended = λ q. (cc) })

module _ {S B D : Type 0} {g : Files S D} {h : Disks D} {b : Books B} {sheet : Sheet} {k l : Desk S B D g h b} where
  module _ {warned : Warned} {n : ℕ} {ticking : Ticking} {t : Option (List ℕ)} {w : List Told} {c : Logs} (a : Logs) (first : Appends a.told t (greeting_of sheet k))
      (stands : w ≡ a.tellings ++ Stands ∷ [])
      (v : DeskGoes sheet k l (process_of k unwarned 0 unticked further) (process_of l warned n ticking further) (record a { told = t; tellings = w }) c) where
    -- the greeting comes first
    greeted : DeskGoes sheet k l (process_of k unwarned 0 unticked further) (process_of l warned n ticking further) (with_greeting a (greeting_of sheet k)) c
    greeted = then (record {
      same = same_here k;
      goes = record { moments = []; run = tt; last = refl; logs = none_logged (told_first a.told t (greeting_of sheet k) first) };
    }) (rw stands at v)

    -- all turns are over
    pub all_over : (turns : ℕ) → n ≡ turns → DeskRuns sheet k l a c turns (Ok tt)
    all_over turns e = record { last = process_of l warned n ticking further; is = refl; goes = greeted; ended = (refl, e) }

    -- a turn ended the process
    pub cut_short : {m : Desk S B D g h b} {later : Warned} {o turns : ℕ} {at : Ticking} (e : Logs) (r : Result (Unit {0}) DeskEnd) (met : DeskEnd)
        → IsErrAnd r (λ end. end ≡ met)
        → DeskGoes sheet l m (process_of l warned n ticking further) (process_of m later o at (ending met)) (known_until met c) (known_until met e)
        → DeskRuns sheet k m a e turns r
    cut_short e (Ok done) met is after = absurd is
    cut_short {m = m} {later = later} {o = o} {turns = turns} {at = at} e (Err end) met is after =
        let failed : Result (Unit {0}) DeskEnd = Err met in
        let last = process_of m later o at (ending met) in
        rw is (record { last = last; is = refl; goes = then (muted failed greeted) after; ended = ended_at met turns last refl })

  module _ {a c : Logs} {turns : ℕ} (r : Result (Unit {0}) DeskEnd) (v : DeskRuns sheet k l a c turns r) where
    -- a run blames the disk only if the disk failed in the run
    pub blames : (state_of k).failed ≡ false → BlamesDisk DeskEnd.Device (FitsLongest g.room (h.cap (disk_of k))) r (h.faults (disk_of k)) (h.faults (disk_of l))
    blames sound =
        let m = v.goes.goes in
        let last = run_blames sheet (view_of k) (disks_of k) (game_of k) (innings_of k) (process_of k unwarned 0 unticked further) v.last m.moments refl sound m.run m.last in
        let room = FitsLongest g.room (h.cap (disk_of k)) in
        let here = subst (λ (d : DeskState D). BlamesDisk DeskEnd.Device room v.last.course (h.faults (disk_of k)) (h.faults d.disk)) v.is last in
        answer_blames turns r v.last (h.faults (disk_of k)) (h.faults (disk_of l)) v.ended here

  -- the last flush leaves what was written
  flushed : {a c : Logs} {u : Option (List ℕ)} {turns : ℕ} (r : Result (Unit {0}) DeskEnd) → DeskRuns sheet k l a c turns r → Keeps c.told u
      → DeskRuns sheet k l a (record c { told = u }) turns r
  flushed (Err DeskEnd.Write) v w = record { last = v.last; is = v.is; goes = v.goes; ended = v.ended }
  flushed r v w = record { last = v.last; is = v.is; goes = kept v.goes w; ended = v.ended }

  -- a run and its last flush
  pub told_last : {a c : Logs} {u : Option (List ℕ)} {turns : ℕ} (answer : Result (Unit {0}) WriteFailed) (r r' : Course)
      → r' ≡ end_told r (written answer) → DeskRuns sheet k l a c turns r → Keeps c.told u → DeskRuns sheet k l a (record c { told = u }) turns r'
  told_last (Err fault) (Err DeskEnd.Device) r' e v w = rw e (flushed (Err DeskEnd.Device) v w)
  told_last {turns = turns} (Err fault) r r' e v w =
      rw e (record { last = v.last; is = v.is; goes = silent v.goes; ended = not_the_disk turns r v.last v.ended (λ q. (cc)) })
  told_last (Ok done) (Err DeskEnd.Write) r' e v w = rw e (flushed (Err DeskEnd.Write) v w)
  told_last answer r r' e v w = rw e (flushed r v w)
