use Rattle.export.proofs.ReaderSums.{batter_adds_up}
use Rattle.export.proofs.readers.batters_add_up.Goals as goal

pub returns : goal.returns
returns c s n book all legal i name = batter_adds_up s n book all legal i name
