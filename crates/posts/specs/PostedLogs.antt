-- The posted lines that a desk was given.
use Rattle.std.specs.Prelude.{ℕ, List, [], ◌∷◌, ◌++◌}
use Rattle.posts.specs.Posted.{WasPosted}
use Rattle.posts.specs.declared.posted_log.PostedLog.{PostedLog, Empty, Line'}

-- the lines of a log, the oldest first
abbrev pub lines_of : PostedLog → List (List ℕ)
lines_of Empty = []
lines_of (Line' marker before line) = lines_of before ++ line.value.text.items ∷ []

-- each of the lines was posted
abbrev pub WerePosted : PostedLog → Type 0
WerePosted Empty = Unit {0}
WerePosted (Line' marker before line) =
    WerePosted before × WasPosted line.value.secret.value line.value.out.value.items line.value.stamp.value line.value.at line.value.text.items
