-- The players of a side who didn't bat: s is the sheet, n the innings a side, h the history and i the innings.
use Rattle.std.specs.Prelude.{ℕ, ◌+◌, ◌==◌, ◌&&◌, Bool, true, false, is_none, if◌then◌else◌, List, [], ◌∷◌, ◌++◌, codes}
use Rattle.notation.specs.declared.entry.Side.{Side}
use Rattle.ball_laws.specs.History.{History}
use Rattle.match_laws.specs.declared.outcome.Outcome.{Outcome}
use Rattle.match_laws.specs.declared.outcome.Outcome.TheVariants.{Undecided}
use Rattle.match_laws.specs.Figures.{fate}
use Rattle.match_laws.specs.History.{begun, is_open, side_of}
use Rattle.match_laws.specs.Result.{outcome}
use Rattle.cards.specs.Sheet.{Sheet, player_of}
use Rattle.json_fields.specs.Values.{up_to}
use Rattle.page.specs.Escapes.{name_html}

-- the player, if he neither came in nor was timed out in the innings
abbrev pub idle_at : History → ℕ → ℕ → List ℕ
idle_at h i p = if is_none (fate h i p) then p ∷ [] else []

abbrev pub idle : History → ℕ → List ℕ
idle h i = up_to (λ k. idle_at h i (k + 1)) 11

abbrev pub names_behind : Sheet → Side → List ℕ → List ℕ
names_behind s side [] = []
names_behind s side (p ∷ ps) = (codes ", " ++ name_html (player_of s side p)) ++ names_behind s side ps

abbrev pub is_undecided : Outcome → Bool
is_undecided Undecided = true
is_undecided _ = false

-- the innings is in play, in a match without a result
abbrev pub goes_on : ℕ → History → ℕ → Bool
goes_on n h i = is_undecided (outcome n h) && (is_open h && (begun h == i + 1))

abbrev pub label : Bool → List ℕ
label on = if on then codes "<p class='rest'><b>Yet to bat: </b>" else codes "<p class='rest'><b>Did not bat: </b>"

abbrev pub listed : Sheet → Side → Bool → List ℕ → List ℕ
listed s side on [] = []
listed s side on (p ∷ ps) = label on ++ name_html (player_of s side p) ++ names_behind s side ps ++ codes "</p>\n"

abbrev pub idle_html : Sheet → ℕ → History → ℕ → List ℕ
idle_html s n h i = listed s (side_of h i) (goes_on n h i) (idle h i)
