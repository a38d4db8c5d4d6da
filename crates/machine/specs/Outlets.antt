-- What a stream that is handed pieces has taken.
use Rattle.std.specs.Prelude.{ℕ, List}
use Rattle.machine.specs.Rows.{bytes_in}
use Rattle.machine.specs.declared.screen.Pieces.{Pieces}

abbrev pub taken_by : {S : Type 0} → Pieces S → List ℕ
taken_by pieces = bytes_in pieces.taken
