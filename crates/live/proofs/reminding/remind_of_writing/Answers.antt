use Rattle.std.proofs.Common.{ap, refl}
use Rattle.live.specs.Paces.{ticking_of}
use Rattle.station_texts.specs.declared.reminder.Reminder.TheVariants.{HasWritten}
use Rattle.live.proofs.DeskLemmas.{reminds}
use Rattle.live.proofs.reminding.remind_of_writing.Goals as goal

pub returns-then-is_late-clause-goes : goal.returns-then-is_late-clause-goes
returns-then-is_late-clause-goes g c = λ sheet logs turns.
    let told = c.tell.ensures in
    let waited = c.if-is_waited_for.ensures in
    reminds {ticking = ticking_of c.args.between.now.pace} HasWritten c.args.between.now.pace.in_time (ap ticking_of told.pace) (waited.own refl, waited.other refl, c.if-between.false) told.warned told.course (rw c.position-place.ensures at told.text) (rw c.position-place.ensures at told.told)
