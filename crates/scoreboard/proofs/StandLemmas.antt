-- The partnership counted over the clean list is that of the history.
use Rattle.std.proofs.Common.{arith, ◌≡◌, List, [], ◌∷◌, refl, ap, ◌∙◌}
use Rattle.notation.specs.declared.entry.Entry.{Entry}
use Rattle.ball_laws.specs.History.{History}
use Rattle.corrections.specs.declared.placed.Placed.{Placed}
use Rattle.corrections.specs.CleanList.{clean_items_of, history_of}
use Rattle.limits.specs.inner.Walks.{along, walk}
use Rattle.limits.proofs.WalkLemmas.{PassesVoids, walk_book}
use Rattle.scoreboard.specs.Stand.{no_stand, stand_after, stand_of}

passes : PassesVoids stand_after
passes x s v = grind arith

stand_along : (h : History) → along stand_after no_stand h ≡ stand_of h
stand_along [] = refl
stand_along (x ∷ h) = ap (stand_after x) (stand_along h)

pub stand_book : (book : List Entry) (items : List Placed) → items ≡ clean_items_of book → walk stand_after no_stand items ≡ stand_of (history_of book)
stand_book book items is = walk_book stand_after passes no_stand book items is ∙ stand_along (history_of book)
