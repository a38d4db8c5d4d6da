-- Who bowls and bats, by the items and by the Laws' history of the book.
use Rattle.std.proofs.Common.{◌≡◌, List, [], ◌∷◌, refl, ◌∙◌, append-nil}
use Rattle.notation.specs.declared.entry.Entry.{Entry}
use Rattle.ball_laws.specs.History.{History}
use Rattle.corrections.specs.declared.placed.Placed.{Placed}
use Rattle.corrections.specs.CleanList.{clean, clean_items_of, history, history_of}
use Rattle.corrections.specs.inner.Scoring.{history_after}
use Rattle.corrections.proofs.LegalLemmas.{history_after-history}
use Rattle.corrections.proofs.OverLemmas.{alike-kept}
use Rattle.shorthand.specs.declared.full.Belongs.TheVariants.{Last}
use Rattle.shorthand.specs.Points.{history_to, point_at, point_of}

to_last : (h : History) (xs : List Placed) → history_to Last h xs ≡ history_after h xs
to_last h [] = refl
to_last h (x ∷ xs) = to_last (x.item ∷ h) xs

pub all_to_last : (xs : List Placed) → history_to Last [] xs ≡ history xs
all_to_last xs = to_last [] xs ∙ (history_after-history [] xs ∙ append-nil (history xs))

pub point_at-last : (book : List Entry) → point_at book Last ≡ point_of (history_of book)
unfolding history_of clean
point_at-last book =
    let xs = clean_items_of book in
    let alike = alike-kept xs in
    rw (all_to_last xs, alike.over, alike.side)
