-- What is asked after the word `plan`, and the answer.
use Rattle.std.specs.Prelude.{◌≡◌, ℕ, zero, suc, ◌==◌, ◌&&◌, Bool, nat_le, nat_lt, if◌then◌else◌, Option, Some, None, List, [], ◌∷◌, ◌++◌, All, codes, drop, length, bytes_eq, Result, Ok, Err}
use Rattle.std.specs.Char.{is_ascii_whitespace}
use Rattle.std.specs.List.{after_first, before_first, position_or_len, prefix_len}
use Rattle.notation.specs.declared.entry.{Entry.Entry, Plain.Plain}
use Rattle.notation.specs.declared.entry.Entry.TheVariants.{Write}
use Rattle.notation.specs.declared.fault.LineFault.TheVariants.{BadNumber, Missing, TooLong, UnknownWord}
use Rattle.notation.specs.Written.{IsEntry, IsPlain, found_number}
use Rattle.cards.specs.Sheet.{Sheet}
use Rattle.plans.specs.Answers.{IsAnswer}
use Rattle.plans.specs.Bowlers.{over_by}
use Rattle.plans.specs.declared.plan.Plan.{Plan}
use Rattle.plans.specs.declared.plan.Plan.TheVariants.{Lines, Unnamed, Against, TooLong as LongPlan}
use Rattle.shorthand.specs.Full.{entry_in_full}
use Rattle.shorthand.specs.Lines.{Reason, Fault, reason_of}
use Rattle.plans.specs.declared.planning.Planned.{Planned}

-- ---- what is asked

-- corrections separated by commas, at most so many after the first
abbrev pub is_comma : ℕ → Bool
is_comma b = b == 44

abbrev pub has_comma : List ℕ → Bool
has_comma text = nat_lt (position_or_len is_comma text) (length text)

abbrev pub unspaced : List ℕ → List ℕ
unspaced text = drop (prefix_len is_ascii_whitespace text) text

abbrev pub parts_of : ℕ → List ℕ → List (List ℕ)
parts_of zero text = text ∷ []
parts_of (suc more) text =
    if has_comma text then before_first is_comma text ∷ parts_of more (unspaced (after_first is_comma text)) else text ∷ []

-- the corrections read so far and one more; the first reason stays
abbrev pub with_part : Result (List Entry) Reason → Result Entry Reason → Result (List Entry) Reason
with_part (Ok es) (Ok e) = Ok (es ++ e ∷ [])
with_part (Ok es) (Err why) = Err why
with_part (Err why) part = Err why

abbrev pub with_parts : Sheet → List Entry → Result (List Entry) Reason → List (List ℕ) → Result (List Entry) Reason
with_parts s book wanted [] = wanted
with_parts s book wanted (t ∷ ts) = with_parts s book (with_part wanted (entry_in_full s book t)) ts

-- `bowler n b`: corrections of the deliveries of over n of the innings begun last, with bowler b
abbrev pub is_space : ℕ → Bool
is_space b = b == 32

abbrev pub has_space : List ℕ → Bool
has_space text = nat_lt (position_or_len is_space text) (length text)

abbrev pub bowler_of : Result Entry Reason → Result ℕ Reason
bowler_of (Ok (Write (Plain.Ball b))) = Ok b.bowler
bowler_of (Ok e) = Err (Fault UnknownWord)
bowler_of (Err why) = Err why

abbrev pub bowler_named : Sheet → List Entry → List ℕ → Result ℕ Reason
bowler_named s book name =
    if nat_le (length name) 80 then bowler_of (entry_in_full s book (codes "ball " ++ name ++ codes " bat 0"))
    else Err (Fault TooLong)

abbrev pub bowled : List Entry → ℕ → Result ℕ Reason → Result (List Entry) Reason
bowled book over (Ok p) = Ok (over_by book over p)
bowled book over (Err why) = Err why

abbrev pub bowled_by : Sheet → List Entry → Option ℕ → List ℕ → Result (List Entry) Reason
bowled_by s book None name = Err (Fault BadNumber)
bowled_by s book (Some over) name = bowled book over (bowler_named s book name)

abbrev pub by_bowler : Sheet → List Entry → List ℕ → Result (List Entry) Reason
by_bowler s book text =
    if has_space text then bowled_by s book (found_number 1 8191 (before_first is_space text)) (after_first is_space text)
    else Err (Fault Missing)

-- all wanted corrections
abbrev pub is_of_bowler : List ℕ → Bool
is_of_bowler text = has_space text && bytes_eq (before_first is_space text) (codes "bowler")

abbrev pub wanted_in : Sheet → List Entry → List ℕ → Result (List Entry) Reason
wanted_in s book text =
    if is_of_bowler text then by_bowler s book (after_first is_space text)
    else with_parts s book (Ok []) (parts_of 23 text)

-- ---- the answer

-- a plan for the text after `plan `, in a book of the sheet's match, or what isn't clear; or that there was no memory
abbrev pub IsPlanned : Sheet → List Entry → List ℕ → Planned → Type 0
IsPlanned s book text (Planned.Plan plan) =
    (wanted : List Entry) × (wanted_in s book text ≡ Ok wanted) × IsAnswer s.innings book wanted plan
IsPlanned s book text (Planned.Unclear unclear) = wanted_in s book text ≡ Err (reason_of unclear)
IsPlanned s book text Planned.NoMemory = Unit {0}

-- the entries of a plan have their numbers in range
abbrev pub IsFinePlan : Plan → Type 0
IsFinePlan (Lines lines) = All IsEntry lines.items
IsFinePlan (Unnamed e) = IsEntry e
IsFinePlan (Against x why) = IsPlain x.item
IsFinePlan LongPlan = Unit {0}

abbrev pub IsFinePlanned : Planned → Type 0
IsFinePlanned (Planned.Plan plan) = IsFinePlan plan
IsFinePlanned planned = Unit {0}
