-- The line shown where the outcome in a sheet's table [info], as ruled by the umpires or the league, has another winner than
-- the Laws, or a result that can't be theirs where nobody won. s is the sheet, whose sides are told apart, and info the table [info].
use Rattle.std.specs.Prelude.{ℕ, Bool, false, true, ◌||◌, if◌then◌else◌, bytes_eq, List, [], ◌++◌, Option, Some, None, is_some, option_and_then, option_map, codes}
use Rattle.notation.specs.declared.entry.{Entry.Entry, Side.Side}
use Rattle.match_laws.specs.declared.outcome.Outcome.{Outcome}
use Rattle.match_laws.specs.declared.outcome.Outcome.TheVariants.{Draw, Tie, Runs, Wickets, InningsAnd, PenaltyRuns}
use Rattle.match_laws.specs.Result.{outcome}
use Rattle.corrections.specs.CleanList.{history_of}
use Rattle.cards.specs.Sheet.{Sheet, name_of}
use Rattle.toml.specs.Data.{Members, as_str}
use Rattle.sheet_check.specs.Letters.{shown}
use Rattle.export.specs.Given.{info_in}
use Rattle.export.specs.Info.{outcome_at}

-- the side that has won by the Laws, where one has
abbrev pub winner_of : Outcome → Option Side
winner_of (Runs side n) = Some side
winner_of (Wickets side n) = Some side
winner_of (InningsAnd side n) = Some side
winner_of (PenaltyRuns side) = Some side
winner_of other = None

-- the Laws' result of a match that is over without a winner
abbrev pub result_of : Outcome → Option (List ℕ)
result_of Draw = Some (codes "draw")
result_of Tie = Some (codes "tie")
result_of other = None

-- a result in the sheet that can't be the Laws': where both sides completed all innings with equal totals, it is a tie; a match
-- that was closed before is none. Of a match that isn't over, or that a side won, no result says so, nor does any other word
abbrev pub contradicts : List ℕ → Outcome → Bool
contradicts word Tie = bytes_eq word (codes "draw") || bytes_eq word (codes "no result")
contradicts word Draw = bytes_eq word (codes "tie")
contradicts word other = false

-- the outcome says why it may differ from the Laws: a method or an award, or an over or balls after a tie
abbrev pub says_why : Members → Bool
says_why info =
    (is_some (outcome_at (codes "method") info) || is_some (outcome_at (codes "eliminator") info)) || is_some (outcome_at (codes "bowl_out") info)

-- the text at a key of the outcome
abbrev pub outcome_text : List ℕ → Members → Option (List ℕ)
outcome_text key info = option_and_then as_str (outcome_at key info)

-- two names are equal, or both are missing
abbrev pub is_same : Option (List ℕ) → Option (List ℕ) → Bool
is_same None None = true
is_same (Some a) (Some b) = bytes_eq a b
is_same a b = false

abbrev pub winner_words : Option (List ℕ) → List ℕ
winner_words None = codes "no winner"
winner_words (Some name) = shown name

-- the line that names the sheet's winner or result and the Laws', or nothing where they are the same
abbrev pub difference : Option (List ℕ) → Option (List ℕ) → List ℕ
difference told laws =
    if is_same told laws then []
    else codes "sheet: info.outcome says " ++ winner_words told ++ codes ", the Laws say " ++ winner_words laws ++ codes "\n"

-- an outcome without a `winner`: its `result` differs from a win, and may contradict a draw or a tie
abbrev pub result_difference : List ℕ → Outcome → Option (List ℕ) → List ℕ
result_difference word outcome laws =
    if contradicts word outcome then difference (Some word) (result_of outcome) else difference None laws

-- an outcome with a `winner` names it; one with neither that nor a `result` never differs
abbrev pub outcome_difference : Option (List ℕ) → Option (List ℕ) → Outcome → Option (List ℕ) → List ℕ
outcome_difference (Some winner) result outcome laws = difference (Some winner) laws
outcome_difference None (Some word) outcome laws = result_difference word outcome laws
outcome_difference None None outcome laws = []

-- the line for the Laws' outcome and the name of its winner: nothing, where the sheet's outcome says why it may differ
abbrev pub disagreement : Members → Outcome → Option (List ℕ) → List ℕ
disagreement info outcome laws =
    if says_why info then []
    else outcome_difference (outcome_text (codes "winner") info) (outcome_text (codes "result") info) outcome laws

-- the line for a sheet's document and a book
abbrev pub disagreement_of : Sheet → Members → List Entry → List ℕ
disagreement_of s document book =
    let ruled = outcome s.innings (history_of book) in disagreement (info_in document) ruled (option_map (name_of s) (winner_of ruled))
