-- The partnerships of an innings, in their order: i is the innings, numbered from 0, and ms the items of the match.
use Rattle.std.specs.Prelude.{ℕ, ◌+◌, ◌==◌, ◌&&◌, Bool, true, false, is_some, if◌then◌else◌, List, [], ◌∷◌, ◌++◌, Option, Some, None, codes, decimal}
use Rattle.notation.specs.declared.entry.{Ball.Ball, Leave.Leave, Plain.Plain}
use Rattle.notation.specs.declared.entry.Leave.TheVariants.{RetiredHurt}
use Rattle.match_laws.specs.Figures.{runs_of, faced_of}
use Rattle.cards.specs.Columns.{lines_from}
use Rattle.page.specs.declared.{moments.Moment.Moment, stands.Stand.Stand, stands.Partnership.Partnership, stands.TheConstants.HEADINGS}

-- ---- since the last wicket: all runs but penalty runs, and the balls faced

abbrev pub no_stand : Stand
no_stand = record { runs = 0; balls = 0 }

abbrev pub stand_with : Ball → Stand → Stand
stand_with b s = record { runs = s.runs + runs_of b; balls = s.balls + faced_of b }

abbrev pub stand_behind : Ball → Stand → Stand
stand_behind b s = if is_some b.out then no_stand else stand_with b s

-- a batter who retired hurt may come in again, so the stand goes on
abbrev pub stand_left : Leave → Stand → Stand
stand_left RetiredHurt s = s
stand_left way s = no_stand

abbrev pub stand_after : Plain → Stand → Stand
stand_after (Plain.Ball b) s = stand_behind b s
stand_after (Plain.Gone way p) s = stand_left way s
stand_after x s = s

-- ---- the partnership that an item ends, from the stand before the item

abbrev pub ending : Bool → Stand → Partnership
ending broken s = record { broken = broken; runs = s.runs; balls = s.balls }

abbrev pub ended_behind : Ball → Stand → Option Partnership
ended_behind b s = if is_some b.out then Some (ending true (stand_with b s)) else None

abbrev pub ended_left : Leave → Stand → Option Partnership
ended_left RetiredHurt s = None
ended_left way s = Some (ending true s)

-- the unbroken partnership at the end of the innings or the book
abbrev pub unbroken : Stand → Option Partnership
unbroken s = if (s.runs == 0) && (s.balls == 0) then None else Some (ending false s)

abbrev pub ended : Plain → Stand → Option Partnership
ended (Plain.Ball b) s = ended_behind b s
ended (Plain.Gone way p) s = ended_left way s
ended (Plain.End cause) s = unbroken s
ended Plain.Void s = unbroken s
ended x s = None

-- ---- the partnerships of an innings

-- an item belongs to innings i, and the innings was open before it
abbrev pub is_within : ℕ → Moment → Bool
is_within i m = (m.innings == i) && m.on

abbrev pub ended_in : ℕ → Moment → Stand → Option Partnership
ended_in i m s = if is_within i m then ended m.item s else None

abbrev pub stand_in : ℕ → Moment → Stand → Stand
stand_in i m s = if is_within i m then stand_after m.item s else s

abbrev pub in_list : Option Partnership → List Partnership
in_list None = []
in_list (Some x) = x ∷ []

abbrev pub partnerships_from : ℕ → Stand → List Moment → List Partnership
partnerships_from i s [] = []
partnerships_from i s (m ∷ ms) = in_list (ended_in i m s) ++ partnerships_from i (stand_in i m s) ms

abbrev pub partnerships : ℕ → List Moment → List Partnership
partnerships i ms = partnerships_from i no_stand ms

-- ---- the partnerships as a table, or nothing if there are none

abbrev pub star : Bool → List ℕ
star broken = if broken then [] else codes "*"

abbrev pub figures_html : ℕ → ℕ → List ℕ → ℕ → List ℕ
figures_html number runs star balls =
    codes "<tr><th scope='row'>" ++ (decimal number ++ (codes "</th><td>" ++ (decimal runs ++ (star ++ (codes "</td><td>" ++ (decimal balls
    ++ codes "</td></tr>\n"))))))

abbrev pub row_html : ℕ → Partnership → List ℕ
row_html number x = figures_html number x.runs (star x.broken) x.balls

abbrev pub table_html : List ℕ → List ℕ
table_html rows = HEADINGS.now ++ rows ++ codes "</tbody></table>\n"

abbrev pub in_table : List ℕ → List ℕ
in_table [] = []
in_table (b ∷ bs) = table_html (b ∷ bs)

abbrev pub partnerships_html : ℕ → List Moment → List ℕ
partnerships_html i ms = in_table (lines_from row_html 1 (partnerships i ms))
