-- The answer to wanted corrections.
use Rattle.std.specs.Prelude.{◌≡◌, ℕ, false, Contains, Some, None, List, ◌++◌}
use Rattle.notation.specs.declared.entry.Entry.{Entry}
use Rattle.notation.specs.Written.{IsEntry, IsPlain}
use Rattle.corrections.specs.CleanList.{clean_items_of}
use Rattle.corrections.specs.declared.refusal.Refusal.TheVariants.{Later}
use Rattle.corrections.specs.Refusal.{first_refused_in}
use Rattle.plans.specs.declared.plan.Plan.{Plan}
use Rattle.plans.specs.declared.plan.Plan.TheVariants.{Lines, Unnamed, Against, TooLong}
use Rattle.plans.specs.Plans.{IsPlan, names}

-- a plan; a wanted entry that names no entry of its kind; the first item refused once all wanted corrections are made; or
-- that the Laws refuse none, and no plan was found
abbrev pub IsAnswer : ℕ → List Entry → List Entry → Plan → Type 0
IsAnswer n book wanted (Lines lines) = IsPlan n book wanted lines.items
IsAnswer n book wanted (Unnamed e) = IsEntry e × Contains wanted e × (names book e ≡ false)
IsAnswer n book wanted (Against s why) =
    IsPlain s.item × (first_refused_in n (book ++ wanted) ≡ Some (Later s.place why))
    × Contains (clean_items_of (book ++ wanted)) s
IsAnswer n book wanted TooLong = first_refused_in n (book ++ wanted) ≡ None
