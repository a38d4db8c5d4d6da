use Rattle.desk_state.proofs.CorrectedLemmas.{notes_one}
use Rattle.desk_state.proofs.corrected.corrected_by.Goals as goal

pub loop-place-preserved : goal.loop-place-preserved
loop-place-preserved g c = notes_one c.entry.result c.loop-place.invariant c.entry.ensures.value c.note.ensures
