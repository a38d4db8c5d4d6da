-- Which place a correction leaves refused, and why.
use Rattle.std.specs.Prelude.{ℕ, List, ◌++◌, codes, decimal}
use Rattle.notation.specs.declared.entry.Plain.{Plain}
use Rattle.notation.specs.declared.entry.Entry.TheVariants.{Write}
use Rattle.notation.specs.Written.{text_of}
use Rattle.match_laws.specs.LawRefusal.{number_of as law_number}
use Rattle.match_laws.specs.declared.refusals.LawRefusal.{LawRefusal}
use Rattle.screen.specs.Sentences.{of_law}

-- the first place that a correction of the book leaves refused, what would stand there, and why it is refused
abbrev pub later_numbers : ℕ → LawRefusal → List ℕ
later_numbers place why = codes "refused 32 Later " ++ decimal place ++ codes " " ++ decimal (law_number why)

abbrev pub later_words : ℕ → Plain → LawRefusal → List ℕ
later_words place item why =
    codes ": place " ++ decimal place ++ codes ", " ++ text_of (Write item) ++ codes ":\n  " ++ of_law why ++ codes "\n"
