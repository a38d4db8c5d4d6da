-- What a scorer is told of a line that is unclear or has a fault.
use Rattle.std.specs.Prelude.{ℕ, true, if◌then◌else◌, is_some, List, [], ◌++◌, codes, decimal}
use Rattle.notation.specs.declared.fault.LineFault.{LineFault}
use Rattle.notation.specs.LineFault.{number_of, name_of}
use Rattle.ball_laws.specs.History.{History}
use Rattle.cards.specs.Sheet.{Sheet, team_of}
use Rattle.screen.specs.Sentences.{of_fault}
use Rattle.score_rows.specs.Limited.{bowlers}
use Rattle.screen.specs.Sides.{listed}
use Rattle.screen.specs.Near.{unknown_text}
use Rattle.shorthand.specs.declared.unclear.{Letter.Letter, Unaided.Unaided, Unclear.Unclear}
use Rattle.shorthand.specs.Candidates.{candidates}

-- a word, a number and a name
abbrev pub numbered : List ℕ → ℕ → List ℕ → List ℕ
numbered word number name = word ++ codes " " ++ decimal number ++ codes " " ++ name ++ codes "\n"

-- a word, a number, a name and a sentence
abbrev pub explained : List ℕ → ℕ → List ℕ → List ℕ → List ℕ
explained word number name sentence =
    word ++ codes " " ++ decimal number ++ codes " " ++ name ++ codes ": " ++ sentence ++ codes "\n"

abbrev pub fault_text : LineFault → List ℕ
fault_text fault = explained (codes "fault") (number_of fault) (name_of fault) (of_fault fault)

-- both meanings of a letter
abbrev pub meanings : Letter → List ℕ
meanings Letter.B = codes "b: byes are b1, b2, .., a wicket is bowled\n"
meanings Letter.W = codes "w: a wide is wd, a wicket bowled, caught, ..\n"

abbrev pub way_text : Unaided → List ℕ
way_text Unaided.Bowled = codes "bowled"
way_text Unaided.Lbw = codes "lbw"

abbrev pub unclear_text : Sheet → Unclear → List ℕ
unclear_text sheet (Unclear.Fault fault) = fault_text fault
unclear_text sheet Unclear.WhoBowls = codes "who bowls? begin with the bowler, as 10: .\n"
unclear_text sheet Unclear.WhoIsOut = codes "who is out? striker or other comes first, as ro striker 8\n"
unclear_text sheet (Unclear.NoSuchPlayer name) = codes "no such player: " ++ name.bytes ++ codes "\n"
unclear_text sheet (Unclear.TwoMeanings letter) = meanings letter
unclear_text sheet (Unclear.NoFielder how name) =
    way_text how ++ codes " has no fielder: " ++ name.bytes ++ codes " bowls?\n"
unclear_text sheet (Unclear.UnknownWord word) = unknown_text word.bytes
unclear_text sheet (Unclear.NoSuchBall name) = codes "no such ball: " ++ name.bytes ++ codes "\n"
unclear_text sheet (Unclear.WhichPlayer side name) =
    codes "which one? " ++ listed (team_of sheet side) true (candidates (team_of sheet side) name.bytes) ++ codes "\n"
unclear_text sheet Unclear.NothingStands = codes "undo: no entry stands\n"

-- who may bowl, if the line doesn't name the bowler and the sheet limits a bowler's overs
abbrev pub limited_bowlers : Sheet → History → List ℕ
limited_bowlers sheet h = if is_some sheet.limits.overs_a_bowler then bowlers sheet h else []

abbrev pub who_may : Sheet → History → Unclear → List ℕ
who_may sheet h Unclear.WhoBowls = limited_bowlers sheet h
who_may sheet h unclear = []
