-- The result as the umpires gave it: the `outcome` of the sheet's table [info].
use Rattle.std.specs.Prelude.{ℕ, bytes_eq, if◌then◌else◌, List, [], ◌∷◌, ◌++◌, Option, Some, None, codes}
use Rattle.toml.specs.Data.{Members}
use Rattle.export.specs.Given.{table_in}
use Rattle.page.specs.Facts.{joined, told, told_in}
use Rattle.page.specs.Title.{or_words}

-- a number with its unit, or nothing if there is no number
abbrev pub counted_text : List ℕ → List ℕ → List ℕ → List ℕ
counted_text [] one many = []
counted_text (b ∷ bs) one many = (b ∷ bs) ++ (if bytes_eq (b ∷ bs) (codes "1") then one else many)

abbrev pub innings_text : List ℕ → List ℕ
innings_text [] = []
innings_text (b ∷ bs) = codes "an innings"

-- the margin: an innings, runs and wickets
abbrev pub margin_text : Option Members → List ℕ
margin_text by =
    joined
    (joined (innings_text (told_in by (codes "innings"))) (codes " and ") (counted_text (told_in by (codes "runs")) (codes " run") (codes " runs")))
    (codes " and ") (counted_text (told_in by (codes "wickets")) (codes " wicket") (codes " wickets"))

abbrev pub behind_words : List ℕ → List ℕ → List ℕ → List ℕ
behind_words before [] after = []
behind_words before (b ∷ bs) after = before ++ (b ∷ bs) ++ after

-- the method if it is penalty runs, which are a margin
abbrev pub penalty_in : List ℕ → List ℕ
penalty_in method = if bytes_eq method (codes "penalty runs") then method else []

abbrev pub method_in : List ℕ → List ℕ
method_in method = if bytes_eq method (codes "penalty runs") then [] else method

-- a draw and a tie in words, and any other result as it is
abbrev pub result_word : List ℕ → List ℕ
result_word word =
    if bytes_eq word (codes "draw") then codes "match drawn"
    else (if bytes_eq word (codes "tie") then codes "match tied" else word)

-- who won, by how much and by which method, or nothing if there is no winner
abbrev pub won_text : List ℕ → List ℕ → List ℕ → List ℕ
won_text [] margin method = []
won_text (b ∷ bs) margin method =
    ((b ∷ bs) ++ codes " won") ++ behind_words (codes " by ") margin []
    ++ behind_words (codes " by ") (penalty_in method) []
    ++ behind_words (codes " (") (method_in method) (codes ")")

abbrev pub ruled_by : Members → List ℕ
ruled_by outcome =
    or_words
    (won_text (told (codes "winner") outcome) (margin_text (table_in (codes "by") outcome)) (told (codes "method") outcome))
    (result_word (told (codes "result") outcome))

abbrev pub ruled_or_none : Option Members → List ℕ
ruled_or_none None = []
ruled_or_none (Some outcome) = ruled_by outcome

-- what the umpires said, from the table [info]
abbrev pub ruled_text : Members → List ℕ
ruled_text info = ruled_or_none (table_in (codes "outcome") info)
