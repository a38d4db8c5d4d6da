use Rattle.std.proofs.Common.{◌≡◌, ◌+◌, [], ◌∷◌, length, Ok, inl, inr, refl, sym, ap, ◌∙◌, arith, append_assoc, append-nil, length-append}
use Rattle.std.proofs.lemmas.List.{map-append}
use Rattle.std.proofs.lemmas.List.Elements.{All-nil, All-push}
use Rattle.schedules.specs.declared.schedule_fault.ScheduleFault.TheVariants.{NoMemory}
use Rattle.notation.specs.Lines.{lines_of}
use Rattle.schedules.specs.ScheduleLines.{IsWrittenEvent}
use Rattle.notation.proofs.Cuts.{length-lines_of}
use Rattle.schedules.proofs.LineTexts.{is_said}
use Rattle.schedules.proofs.ScheduleTexts.{at_fault, none_wrong, same_events}
use Rattle.schedules.proofs.schedule_text.take_lines.Goals as goal

pub loop-line-init : goal.loop-line-init
loop-line-init c = rw (c.new-lines.ensures, c.requires.empty) (record {
  numbered = refl;
  short = omega (arith, length-lines_of c.args.bytes.now);
  written = All-nil IsWrittenEvent;
  texts = refl;
})

pub loop-line-preserved : goal.loop-line-preserved
loop-line-preserved c =
    let m = c.loop-line.invariant in
    let old = c.loop-line.events.items in
    let e = c.in-Ok.ensures.taken.0 in
    let p = is_said _ _ (Ok e) c.in-Ok.ensures.taken.1 in
    rw c.in-Ok.ensures.taken.2 (record {
      numbered = omega (arith, m.numbered, length-append old (e ∷ []));
      short = omega (arith, m.short, ap length c.in-Some.ensures);
      written = All-push IsWrittenEvent old e m.written p.0;
      texts = rw (m.texts, c.in-Some.ensures, p.1) (simp (map-append, append_assoc));
    })

pub returns-clause-only : goal.returns-clause-only
returns-clause-only c = λ others h.
    let m = c.loop-line.invariant in
    same_events c.loop-line.events.items others m.written h.written (sym (rw (c.in_default.ensures.0, append-nil) at m.texts) ∙ h.texts)

-- memory ran out, or the line is at fault
pub returns-in-Err-clause-fault : goal.returns-in-Err-clause-fault
returns-in-Err-clause-fault c =
    let m = c.loop-line.invariant in
    elim c.in-Err.ensures.wrong [
      | inl e ↦ rw e tt
      | inr says ↦
          at_fault (lines_of c.args.bytes.now) _ c.in-Some.line.now c.next.new.self c.loop-line.events.items c.in-Err.fault m.written
          (rw c.in-Some.ensures at m.texts) (omega (arith, m.numbered)) (is_said _ _ _ says)
    ]

pub returns-in-Err-clause-only : goal.returns-in-Err-clause-only
returns-in-Err-clause-only c = λ others h.
    let m = c.loop-line.invariant in
    elim c.in-Err.ensures.wrong [
      | inl e ↦ e
      | inr says ↦ absurd {A = c.in-Err.fault ≡ NoMemory} (none_wrong (c.loop-line.number + 1) c.in-Some.line.now c.in-Err.fault c.next.new.self c.loop-line.events.items others says h.written
          (sym (rw c.in-Some.ensures at m.texts) ∙ h.texts))
    ]
