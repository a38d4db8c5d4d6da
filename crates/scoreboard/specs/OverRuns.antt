-- The runs off each over called in any innings, the oldest first.
use Rattle.std.specs.Prelude.{List, [], ◌∷◌, ◌++◌, map, codes}
use Rattle.notation.specs.declared.entry.Plain.{Plain}
use Rattle.ball_laws.specs.History.{History, open_over}
use Rattle.ball_laws.specs.Sums.{tally}
use Rattle.match_laws.specs.History.{begun}
use Rattle.match_laws.specs.Figures.{runs_of}
use Rattle.json.specs.Json.{Json}
use Rattle.json_fields.specs.Values.{Field, array_of, object_of, number_field}
use Rattle.scoreboard.specs.declared.value.OverRuns.{OverRuns}

-- each over with the number of its innings, from 1
abbrev pub over_runs : History → List OverRuns
over_runs [] = []
over_runs (Plain.Over ∷ h) = over_runs h ++ record { innings = begun h; runs = tally runs_of (open_over h) } ∷ []
over_runs (x ∷ h) = over_runs h

abbrev pub over_value : OverRuns → Json
over_value o = object_of (number_field (codes "innings") o.innings ∷ [] ++ number_field (codes "runs") o.runs ∷ [])

abbrev pub overs_field : List OverRuns → Field
overs_field os = (codes "overs_runs", array_of (map over_value os))
