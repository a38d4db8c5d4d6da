-- The result of a match, in words. s is the sheet.
use Rattle.std.specs.Prelude.{ℕ, ◌==◌, List, ◌++◌, Option, Some, None, codes, decimal, if◌then◌else◌}
use Rattle.match_laws.specs.declared.outcome.Outcome.{Outcome}
use Rattle.match_laws.specs.declared.outcome.Outcome.TheVariants.{Undecided, Draw, Tie, Runs, Wickets}
use Rattle.match_laws.specs.declared.outcome.Outcome.TheVariants.{InningsAnd, PenaltyRuns}
use Rattle.cards.specs.Sheet.{Sheet, name_of}

-- a number of runs or wickets
abbrev pub counted : ℕ → List ℕ → List ℕ → List ℕ
counted n one many = decimal n ++ codes " " ++ (if n == 1 then one else many)

-- the result in words, or none if the match is undecided
abbrev pub result_text : Sheet → Outcome → Option (List ℕ)
result_text s Undecided = None
result_text s Draw = Some (codes "match drawn")
result_text s Tie = Some (codes "match tied")
result_text s (Runs side n) =
    Some (name_of s side ++ codes " won by " ++ counted n (codes "run") (codes "runs"))
result_text s (Wickets side n) =
    Some (name_of s side ++ codes " won by " ++ counted n (codes "wicket") (codes "wickets"))
result_text s (InningsAnd side n) =
    Some (name_of s side ++ codes " won by an innings and " ++ counted n (codes "run") (codes "runs"))
result_text s (PenaltyRuns side) = Some (name_of s side ++ codes " won by penalty runs")
