-- The lines that the desk may cast: they were typed and weren't taken back, each at most once, in their order.
use Rattle.std.specs.Prelude.{◌≡◌, ◌⊎◌, ⊤, ℕ, List, [], ◌∷◌, ◌++◌}
use Rattle.links.specs.Typing.{Input, Line, End}
use Rattle.ahead.specs.declared.log.AheadLog.{AheadLog}
use Rattle.ahead.specs.Ahead.{bytes_of, casting, given_of, held_of, kept_of, typed_of}

-- the first lines are some of the second, each at most once, in their order
abbrev pub AreAmong : List (List ℕ) → List (List ℕ) → Type 0
AreAmong [] ys = ⊤
AreAmong (x ∷ xs) [] = ⊥
AreAmong (x ∷ xs) (y ∷ ys) = ((x ≡ y) × AreAmong xs ys) ⊎ AreAmong (x ∷ xs) ys

-- the lines among what was typed
abbrev pub lines_of : List Input → List (List ℕ)
lines_of [] = []
lines_of (Line line ∷ inputs) = line ∷ lines_of inputs
lines_of (End ∷ inputs) = lines_of inputs

-- the given lines that the desk may cast, followed by the held
-- ones, are lines that weren't taken back; and these were all typed
pub record CastsInOrder (log : AheadLog) : Type 0 where
  pub given : AreAmong (casting (given_of log) ++ bytes_of (held_of log)) (kept_of log)
  pub kept : AreAmong (kept_of log) (lines_of (typed_of log))
