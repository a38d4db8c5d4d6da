-- What is read after `plan`, and that its plan can be printed.
use Rattle.std.proofs.Common.{◌≡◌, ◌<◌, ◌-◌, ℕ, zero, suc, List, [], ◌∷◌, arith, refl}
use Rattle.std.specs.List.{after_first, before_first}
use Rattle.std.specs.Prelude.{Result, Err, false, true}
use Rattle.notation.specs.declared.entry.Entry.{Entry}
use Rattle.cards.specs.Sheet.{Sheet}
use Rattle.plans.specs.declared.plan.Plan.TheVariants.{Lines, Unnamed, Against, TooLong}
use Rattle.shorthand.specs.Lines.{Reason, reason_of}
use Rattle.plans.specs.Planning.{IsFinePlanned, IsPlanned, has_comma, is_comma, parts_of, unspaced, with_parts}
use Rattle.plans.specs.inner.Reading.{IsUnread}
use Rattle.plans.specs.declared.planning.{Planned.Planned, Unread.Unread}

-- the first reason stays
pub reason_stays : (s : Sheet) (book : List Entry) (why : Reason) (texts : List (List ℕ)) → with_parts s book (Err why) texts ≡ Err why
reason_stays s book why [] = refl
reason_stays s book why (t ∷ ts) = reason_stays s book why ts

-- what couldn't be read stays so
pub unread_stays : (s : Sheet) (book : List Entry) (wanted : Result (List Entry) Reason) (texts : List (List ℕ)) (why : Unread) → IsUnread wanted why
    → IsUnread (with_parts s book wanted texts) why
unread_stays s book wanted texts (Unread.Unclear unclear) e = rw e (reason_stays s book (reason_of unclear) texts)
unread_stays s book wanted texts Unread.NoMemory e = tt

-- a text without a comma is one part
pub parts_one : (more : ℕ) (text : List ℕ) → has_comma text ≡ false → parts_of more text ≡ text ∷ []
parts_one zero text e = refl
parts_one (suc more) text e = rw e refl

-- a text with a comma is the part before it and the parts after it
pub parts_more : (more : ℕ) (text first rest : List ℕ) → 0 < more → has_comma text ≡ true → first ≡ before_first is_comma text
    → rest ≡ unspaced (after_first is_comma text) → parts_of more text ≡ first ∷ parts_of (more - 1) rest
parts_more zero text first rest h e f r = absurd (omega (arith, h))
parts_more (suc more) text first rest h e f r = (let same : suc more - 1 ≡ more = omega arith in rw (same, e, f, r) refl)

pub fine_planned : (s : Sheet) (book : List Entry) (text : List ℕ) (planned : Planned) → IsPlanned s book text planned → IsFinePlanned planned
fine_planned s book text (Planned.Plan (Lines lines)) p = p.2.entries
fine_planned s book text (Planned.Plan (Unnamed e)) p = p.2.0
fine_planned s book text (Planned.Plan (Against x why)) p = p.2.0
fine_planned s book text (Planned.Plan TooLong) p = tt
fine_planned s book text (Planned.Unclear unclear) p = tt
fine_planned s book text Planned.NoMemory p = tt
