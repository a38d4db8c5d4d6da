-- The numbers, the names and the printed lines of rejections.
use Rattle.std.specs.Prelude.{ℕ, List, ◌++◌, codes, decimal}
use Rattle.notation.specs.LineFault.{number_of as fault_number, name_of as fault_name}
use Rattle.match_laws.specs.LawRefusal.{number_of as law_number}
use Rattle.corrections.specs.Refusal as refusals
use Rattle.corrections.specs.declared.refusal.Refusal.TheVariants.{Later}
use Rattle.books.specs.declared.rejected.{Refusal.Refusal, Rejected.Rejected}
use Rattle.books.specs.declared.rejected.Refusal.TheVariants.{PlacesFull, Book}
use Rattle.books.specs.declared.rejected.Rejected.TheVariants.{Fault, Refused}

abbrev pub number_of : Refusal → ℕ
number_of PlacesFull = 62
number_of (Book why) = refusals.number_of why

abbrev pub name_of : Refusal → List ℕ
name_of PlacesFull = codes "PlacesFull"
name_of (Book why) = refusals.name_of why

-- the line that is printed for a fault of line n
abbrev pub fault_line : ℕ → ℕ → List ℕ → List ℕ
fault_line n number name =
    codes "line " ++ decimal n ++ codes ": fault " ++ decimal number ++ codes " " ++ name ++ codes "\n"

-- the line that is printed if line n is refused
abbrev pub refused_line : ℕ → ℕ → List ℕ → List ℕ
refused_line n number name =
    codes "line " ++ decimal n ++ codes ": refused " ++ decimal number ++ codes " " ++ name ++ codes "\n"

-- the line that is printed if line n is a correction that leaves a place refused: these words, the place, and
-- the reason's number
abbrev pub later_line : ℕ → List ℕ → ℕ → ℕ → List ℕ
later_line n words place why =
    codes "line " ++ decimal n ++ codes ": " ++ words
    ++ codes " " ++ decimal place ++ codes " " ++ decimal why ++ codes "\n"

-- the line that is printed for the rejected line n
abbrev pub rejection_line : ℕ → Rejected → List ℕ
rejection_line n (Fault fault) = fault_line n (fault_number fault) (fault_name fault)
rejection_line n (Refused (Book (Later place why))) =
    later_line n (codes "refused 32 Later") place (law_number why)
rejection_line n (Refused why) = refused_line n (number_of why) (name_of why)
