use Rattle.std.proofs.Common.{ap}
use Rattle.live.specs.Paces.{ticking_of}
use Rattle.station_texts.specs.declared.reminder.Reminder.TheVariants.{IsHeard, IsMissed}
use Rattle.live.proofs.DeskLemmas.{reminds}
use Rattle.live.proofs.reminding.remind_of_silence.Goals as goal

pub returns-then-between-clause-goes : goal.returns-then-between-clause-goes
returns-then-between-clause-goes g c = λ sheet logs turns.
    let told = c.tell.ensures in
    reminds {ticking = ticking_of c.args.between.now.pace} IsHeard c.args.between.now.pace.in_time (ap ticking_of told.pace) c.if-between.true told.warned told.course told.text told.told

pub returns-then-is_missed-2-clause-goes : goal.returns-then-is_missed-2-clause-goes
returns-then-is_missed-2-clause-goes g c = λ sheet logs turns.
    let told = c.tell-then-is_missed-2.ensures in
    reminds {ticking = ticking_of c.args.between.now.pace} IsMissed c.args.between.now.pace.in_time (ap ticking_of told.pace) c.if-between.false told.warned told.course told.text told.told
