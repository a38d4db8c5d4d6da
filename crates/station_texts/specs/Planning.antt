-- What the scorer is told of a plan.
use Rattle.std.specs.Prelude.{ℕ, nat_lt, if◌then◌else◌, List, [], ◌∷◌, ◌++◌, codes, decimal, length}
use Rattle.notation.specs.declared.entry.Entry.{Entry}
use Rattle.notation.specs.Written.{text_of}
use Rattle.cards.specs.Sheet.{Sheet}
use Rattle.corrections.specs.CleanList.{history_of}
use Rattle.plans.specs.declared.plan.Plan.{Plan}
use Rattle.plans.specs.declared.plan.Plan.TheVariants.{Lines, Unnamed, Against, TooLong as LongPlan}
use Rattle.plans.specs.declared.planning.Planned.{Planned}
use Rattle.station_texts.specs.Laters.{later_words}
use Rattle.station_texts.specs.Questions.{unclear_text, who_may}

-- the lines of entries, one per row
abbrev pub rows : List Entry → List ℕ
rows [] = []
rows (e ∷ es) = text_of e ++ codes "\n" ++ rows es

-- how many lines a plan has, if it has more than a desk holds
abbrev pub many_text : ℕ → List ℕ
many_text count = if nat_lt 24 count then decimal count ++ codes " lines: paste 24 at most at once\n" else []

abbrev pub lines_text : List Entry → List ℕ
lines_text [] = codes "nothing is to be corrected\n"
lines_text (e ∷ es) = rows (e ∷ es) ++ many_text (length (e ∷ es))

abbrev pub plan_text : Plan → List ℕ
plan_text (Lines lines) = lines_text lines.items
plan_text (Unnamed e) = codes "no plan: the book has no entry that this corrects or follows:\n  " ++ text_of e ++ codes "\n"
plan_text (Against x why) = codes "no plan" ++ later_words x.place x.item why
plan_text LongPlan = codes "no plan found: void the later entries, the last first; correct; put them back\n"

abbrev pub planned_text : Sheet → List Entry → Planned → List ℕ
planned_text sheet book (Planned.Plan plan) = plan_text plan
planned_text sheet book (Planned.Unclear unclear) =
    unclear_text sheet unclear ++ who_may sheet (history_of book) unclear
planned_text sheet book Planned.NoMemory = codes "no memory for a plan\n"
