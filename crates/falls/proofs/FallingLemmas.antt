-- The falls, computed from the standing items and from the history.
use Rattle.std.proofs.Common.{arith, ◌≡◌, List, [], ◌∷◌, refl, ap, inl, inr}
use Rattle.std.proofs.lemmas.Bool.{cases_Bool}
use Rattle.std.proofs.lemmas.List.{map-append}
use Rattle.notation.specs.declared.entry.{Plain.Plain, Entry.Entry}
use Rattle.ball_laws.specs.History.{History, is_wicket}
use Rattle.corrections.specs.declared.placed.Placed.{Placed}
use Rattle.corrections.specs.CleanList.{clean_items_of, history_of}
use Rattle.limits.specs.inner.Walks.{walk}
use Rattle.limits.proofs.WalkLemmas.{walk_makes}
use Rattle.falls.specs.Falls.{fall_of, falls_at, wickets_of}
use Rattle.falls.specs.inner.Falling.{behind, falling_after, falling_of, nothing, point_of}

moved : (x : Plain) (h : History) → behind x (point_of h) ≡ point_of (x ∷ h)
moved x h = grind arith

more : (x : Plain) (h : History) → falling_after x (falling_of h) ≡ falling_of (x ∷ h)
more x h = elim (cases_Bool (is_wicket x)) [
  | inl is ↦ rw (is, map-append fall_of (wickets_of h) (record { before = h; item = x } ∷ []), moved x h) refl
  | inr none ↦ rw (none, moved x h) refl
]

pub falling_book : (book : List Entry) (items : List Placed) → items ≡ clean_items_of book
    → (walk falling_after nothing items).falls ≡ falls_at (history_of book)
falling_book book items is = ap (λ s. s.falls) (walk_makes falling_after (λ x s v. grind arith) falling_of more book items is)
