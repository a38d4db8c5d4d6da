use Rattle.export.proofs.ReaderSums.{bowler_adds_up, overs_are_sixes}
use Rattle.export.proofs.readers.bowlers_add_up.Goals as goal

pub returns : goal.returns
returns c = record { bowlers = bowler_adds_up; sixes = overs_are_sixes }
