-- The corrections of an over, with one item more.
use Rattle.std.proofs.lemmas.Grind.{common_steps}
use Rattle.std.proofs.Common.{◌≡◌, ℕ, ◌+◌, ◌<◌, List, ◌∷◌, ◌++◌, length, take, drop, get_or, append_assoc, arith}
use Rattle.std.proofs.lemmas.List.{drop_more, map-append, reverse-append}
use Rattle.notation.specs.declared.entry.Entry.{Entry}
use Rattle.ball_laws.specs.History.{History}
use Rattle.corrections.specs.declared.placed.Placed.{Placed}
use Rattle.corrections.specs.CleanList.{history}
use Rattle.over_numbers.specs.Counts.{counted, is_in_over}
use Rattle.plans.specs.Bowlers.{fix_by, fixes_by}
use Rattle.plans.proofs.StandingLemmas.{next-item}

pub history-next : (xs : List Placed) (k : ℕ) (x : Placed) → k < length xs → x ≡ get_or xs k x → history (take (k + 1) xs) ≡ x.item ∷ history (take k xs)
history-next xs k x h h2 = grind (arith, common_steps, next-item, map-append, reverse-append)

pub fixes-next : (i over p : ℕ) (h : History) (xs : List Placed) (k : ℕ) (x : Placed) → k < length xs → x ≡ get_or xs k x → (done new all : List Entry)
    → new ≡ done ++ fix_by (is_in_over (counted h) i over) p x.place x.item → done ++ fixes_by i over p h (drop k xs) ≡ all
    → new ++ fixes_by i over p (x.item ∷ h) (drop (k + 1) xs) ≡ all
fixes-next i over p h xs k x lt is done new all added before = grind (arith, common_steps, drop_more, append_assoc)
