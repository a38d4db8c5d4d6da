-- What a mark stands for, in the words of a full line.
use Rattle.std.specs.Prelude.{ℕ, List, ◌∷◌, ◌++◌, codes, decimal}
use Rattle.notation.specs.Written.{Token}
use Rattle.shorthand.specs.declared.marks.Runs.{Runs}
use Rattle.shorthand.specs.declared.marks.Runs.TheVariants.{Zero, One, Two, Three, Four, Five, Six}

-- the words of the runs
abbrev pub runs_text : Runs → Token
runs_text Zero = codes "0"
runs_text One = codes "1"
runs_text Two = codes "2"
runs_text Three = codes "3"
runs_text Four = codes "0 four"
runs_text Five = codes "5"
runs_text Six = codes "0 six"

-- the line of a delivery of this bowler, kind and runs
abbrev pub ball_line : ℕ → Token → Token → List ℕ
ball_line n kind runs = codes "ball" ++ 32 ∷ (decimal n ++ 32 ∷ (kind ++ 32 ∷ runs))
