-- The overs counted over the clean list are those of the history.
use Rattle.std.proofs.Common.{arith, ◌≡◌, List, [], ◌∷◌, refl, ap, ◌∙◌}
use Rattle.notation.specs.declared.entry.{Plain.Plain, Entry.Entry}
use Rattle.ball_laws.specs.History.{History}
use Rattle.corrections.specs.declared.placed.Placed.{Placed}
use Rattle.corrections.specs.CleanList.{clean_items_of, history_of}
use Rattle.limits.specs.inner.Walks.{along, walk}
use Rattle.limits.proofs.WalkLemmas.{PassesVoids, walk_book}
use Rattle.scoreboard.specs.OverRuns.{over_runs}
use Rattle.scoreboard.specs.inner.Counting.{counted_after, counted_of, nothing}

passes : PassesVoids counted_after
passes x s v = grind arith

more : (x : Plain) (h : History) → counted_after x (counted_of h) ≡ counted_of (x ∷ h)
more x h = grind arith

counted_along : (h : History) → along counted_after nothing h ≡ counted_of h
counted_along [] = refl
counted_along (x ∷ h) = ap (counted_after x) (counted_along h) ∙ more x h

pub counted_book : (book : List Entry) (items : List Placed) → items ≡ clean_items_of book
    → (walk counted_after nothing items).called ≡ over_runs (history_of book)
counted_book book items is = ap (λ s. s.called) (walk_book counted_after passes nothing book items is ∙ counted_along (history_of book))
