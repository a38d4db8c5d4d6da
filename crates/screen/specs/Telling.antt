-- What a desk tells its scorer, as values.
use Rattle.std.specs.Prelude.{IfSome, List, [], ◌∷◌, ◌++◌}
use Rattle.notation.specs.Written.{IsEntry}
use Rattle.screen.specs.declared.told.Told.{Told}
use Rattle.screen.specs.declared.told.Told.TheVariants.{Agreed, Pending, Differs}
use Rattle.screen.specs.declared.told.TellLog.{TellLog}
use Rattle.screen.specs.declared.told.TellLog as logs

-- each entry in it is one that has a line
abbrev pub IsTold : Told → Type 0
IsTold (Agreed place entry) = IfSome entry IsEntry
IsTold (Pending place entry) = IsEntry entry
IsTold (Differs place own other) = IfSome own IsEntry × IfSome other IsEntry
IsTold told = Unit {0}

-- the values in a log
abbrev pub tellings_of : TellLog → List Told
tellings_of logs.Empty = []
tellings_of (logs.Told' marker before told) = tellings_of before ++ told.value ∷ []
