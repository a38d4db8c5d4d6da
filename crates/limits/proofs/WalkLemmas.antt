-- Walks over the items that stand, and along histories.
use Rattle.std.proofs.Common.{arith, ◌≡◌, ℕ, true, false, List, [], ◌∷◌, refl, sym, ap, ◌∙◌, inl, inr}
use Rattle.std.proofs.lemmas.Bool.{cases_Bool}
use Rattle.notation.specs.declared.entry.{Plain.Plain, Entry.Entry}
use Rattle.ball_laws.specs.History.{History}
use Rattle.match_laws.specs.History.{is_void}
use Rattle.corrections.specs.declared.placed.Placed.{Placed}
use Rattle.corrections.specs.CleanList.{clean_items_of, history_of, kept}
use Rattle.corrections.specs.inner.Scoring.{history_after}
use Rattle.corrections.proofs.LegalLemmas.{history_of-clean_items}
use Rattle.corrections.proofs.ScoringLemmas.{kept_first, kept_not}
use Rattle.limits.specs.Figures.{is_free_hit, free_hit_after}
use Rattle.limits.specs.inner.Walks.{along, bowled_after, bowled_of, none_bowled, walk}

-- a walk over items goes on along their history
walk_after : {S : Type 0} (step : Plain → S → S) (s : S) (h : History) (xs : List Placed)
    → walk step (along step s h) xs ≡ along step s (history_after h xs)
walk_after step s h [] = refl
walk_after step s h (x ∷ xs) = walk_after step s (x.item ∷ h) xs

-- a step that `void`s don't change
abbrev pub PassesVoids : {S : Type 0} → (Plain → S → S) → Type 0
PassesVoids {S} step = (x : Plain) (s : S) → is_void x ≡ true → step x s ≡ s

walk_kept : {S : Type 0} (step : Plain → S → S) → PassesVoids step → (s : S) (xs : List Placed) → walk step s (kept xs) ≡ walk step s xs
walk_kept step passes s [] = refl
walk_kept step passes s (x ∷ xs) = elim (cases_Bool (is_void x.item)) [
  | inl v ↦ rw (kept_not x xs v, passes x.item s v) (walk_kept step passes s xs)
  | inr v ↦ rw (kept_first x xs v) (walk_kept step passes (step x.item s) xs)
]

pub walk_book : {S : Type 0} (step : Plain → S → S) → PassesVoids step → (s : S) (book : List Entry) (items : List Placed)
    → items ≡ clean_items_of book → walk step s items ≡ along step s (history_of book)
walk_book step passes s book items is =
    ap (walk step s) is ∙ sym (walk_kept step passes s (clean_items_of book))
    ∙ walk_after step s [] (kept (clean_items_of book)) ∙ ap (along step s) (history_of-clean_items book)

-- if a step computes a function of histories item by item, the walk computes it for the book's history
pub walk_makes : {S : Type 0} (step : Plain → S → S) → PassesVoids step → (made : History → S) → ((x : Plain) (h : History) → step x (made h) ≡ made (x ∷ h))
    → (book : List Entry) (items : List Placed) → items ≡ clean_items_of book → walk step (made []) items ≡ made (history_of book)
walk_makes {S} step passes made more book items is = walk_book step passes (made []) book items is ∙ goes_on (history_of book)
  where
    goes_on : (h : History) → along step (made []) h ≡ made h
    goes_on [] = refl
    goes_on (x ∷ h) = ap (step x) (goes_on h) ∙ more x h

pub free_book : (book : List Entry) (items : List Placed) → items ≡ clean_items_of book → walk free_hit_after false items ≡ is_free_hit (history_of book)
free_book book items is = walk_makes free_hit_after (λ x s v. grind arith) is_free_hit (λ x h. refl) book items is

-- the overs that a player bowled
pub bowled_book : (p : ℕ) (book : List Entry) (items : List Placed) → items ≡ clean_items_of book
    → walk (bowled_after p) none_bowled items ≡ bowled_of p (history_of book)
bowled_book p book items is = walk_makes (bowled_after p) (λ x s v. grind arith) (bowled_of p) (λ x h. grind arith) book items is
