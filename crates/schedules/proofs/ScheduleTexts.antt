-- The lines of a schedule, one after another.
use Rattle.std.proofs.Common.{arith, ◌≡◌, ◌+◌, ℕ, List, [], ◌∷◌, ◌++◌, length, map, Err, refl, ◌∙◌}
use Rattle.std.specs.Prelude.{All}
use Rattle.std.proofs.lemmas.List.Elements.{All-head, All-tail}
use Rattle.headline.specs.declared.event.Event.{Event}
use Rattle.schedules.specs.declared.schedule_fault.ScheduleFault.{ScheduleFault}
use Rattle.schedules.specs.declared.schedule_fault.ScheduleFault.TheVariants.{NoMemory, BadEvent, BadEntry}
use Rattle.schedules.specs.ScheduleLines.{event_text, HasFault, IsWrittenEvent}
use Rattle.schedules.specs.inner.ScheduleReading.{line_says}
use Rattle.schedules.proofs.LineTexts.{IsSaid, says_again}

-- a line says one event
same_event : (e f : Event) → IsWrittenEvent e → IsWrittenEvent f → event_text e ≡ event_text f → e ≡ f
same_event e f h k same =
    let says = says_again 0 e h in let again = says_again 0 f k in cc

-- lines say one list of events
pub same_events : (es fs : List Event) → All IsWrittenEvent es → All IsWrittenEvent fs → map event_text es ≡ map event_text fs → es ≡ fs
same_events [] [] h k same = refl
same_events (e ∷ es) (f ∷ fs) h k same =
    let a = same_event e f (All-head IsWrittenEvent e es h) (All-head IsWrittenEvent f fs k) (cc) in
    let b = same_events es fs (All-tail IsWrittenEvent e es h) (All-tail IsWrittenEvent f fs k) (cc) in
    rw (a, b) refl
same_events es fs h k same = absurd (cc)

-- the lines of events have no line that says no event
pub none_wrong : (n : ℕ) (line : List ℕ) (why : ScheduleFault) (rest : List (List ℕ)) (before others : List Event)
    → line_says n line ≡ Err why → All IsWrittenEvent others → map event_text before ++ (line ∷ rest) ≡ map event_text others → ⊥
none_wrong n line why rest (b ∷ bs) (f ∷ fs) says h same =
    none_wrong n line why rest bs fs says (All-tail IsWrittenEvent f fs h) (cc)
none_wrong n line why rest [] (f ∷ fs) says h same =
    let ok = says_again n f (All-head IsWrittenEvent f fs h) in cc
none_wrong n line why rest before others says h same = grind arith

-- why the first line at fault is no event's
pub at_fault : (lines : List (List ℕ)) (n : ℕ) (line : List ℕ) (rest : List (List ℕ)) (before : List Event) (why : ScheduleFault)
    → All IsWrittenEvent before → lines ≡ map event_text before ++ (line ∷ rest) → n ≡ length before + 1 → IsSaid n line (Err why)
    → HasFault lines why
at_fault lines n line rest before NoMemory h texts e wrong = absurd wrong
at_fault lines n line rest before (BadEvent k) h texts e wrong =
    record { before = before; line = line; after = rest; written = h; texts = texts; number = wrong.0 ∙ e; wrong = wrong.1 }
at_fault lines n line rest before (BadEntry k fault) h texts e wrong =
    record { before = before; line = line; after = rest; written = h; texts = texts; number = wrong.0 ∙ e; wrong = wrong.1 }
