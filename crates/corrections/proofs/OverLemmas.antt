-- Where overs begin among the items that stand.
use Rattle.std.proofs.Common.{arith, ◌≡◌, ℕ, ◌+◌, ◌<◌, ◌≤◌, true, List, [], ◌∷◌, ◌++◌, length, take, drop, get_or}
use Rattle.std.proofs.Common.{refl, ap, ◌∙◌, append-nil}
use Rattle.std.proofs.lemmas.List.{take_all, take_more}
use Rattle.notation.specs.declared.entry.{Ball.Ball, Entry.Entry}
use Rattle.ball_laws.specs.History.{History, open_over, called_overs}
use Rattle.match_laws.specs.History.{last_side}
use Rattle.corrections.specs.declared.{overs.Overs.Overs, placed.Placed.Placed}
use Rattle.corrections.specs.CleanList.{clean, clean_items_of, history, history_of, kept}
use Rattle.corrections.specs.Overs.{AreOversOf, balls_of, bowled, with_balls}
use Rattle.corrections.specs.inner.Overs.{AddFrom, is_parted}
use Rattle.corrections.specs.inner.Scoring.{history_after}
use Rattle.corrections.proofs.LegalLemmas.{history_after-history}

-- ---- the deliveries among the first items

balls_push : (over : List Ball) (xs : List Placed) (x : Placed) → with_balls over (xs ++ x ∷ []) ≡ bowled x.item (with_balls over xs)
balls_push over [] x = refl
balls_push over (y ∷ ys) x = balls_push (bowled y.item over) ys x

pub balls_more : (items : List Placed) (k : ℕ) (x : Placed) → k < length items → x ≡ get_or items k x
    → balls_of (take (k + 1) items) ≡ bowled x.item (balls_of (take k items))
balls_more items k x within here = grind (arith, take_more items k x within, balls_push [] (take k items) x)

pub balls_all : (items : List Placed) (k : ℕ) → length items ≤ k → balls_of (take k items) ≡ balls_of items
balls_all items k end = ap balls_of (take_all k items end)

-- ---- the over in progress

pub this_from : (items : List Placed) (k : ℕ) → AddFrom items k → is_parted (history (take k items)) ≡ true → balls_of (drop k items) ≡ open_over (history items)
this_from items k m e = grind (arith, m.this)

-- ---- `void`s belong to no over, and begin no innings

-- two histories with the same overs and the same side batting
pub record AreAlike (g h : History) : Type 0 where
  pub over : open_over g ≡ open_over h
  pub called : called_overs g ≡ called_overs h
  pub side : last_side g ≡ last_side h

walked : (g h : History) (xs : List Placed) → AreAlike g h → AreAlike (history_after g xs) (history_after h (kept xs))
walked g h [] e = e
walked g h (x ∷ xs) e = grind (arith, walked (x.item ∷ g) h xs, walked (x.item ∷ g) (x.item ∷ h) xs)

is_after : (xs : List Placed) → history_after [] xs ≡ history xs
is_after xs = history_after-history [] xs ∙ append-nil (history xs)

pub alike-kept : (xs : List Placed) → AreAlike (history xs) (history (kept xs))
alike-kept xs = rw (is_after xs, is_after (kept xs)) at (walked [] [] xs (record { over = refl; called = refl; side = refl }))

pub overs-kept : (overs : Overs) (xs : List Placed) → AreOversOf overs (history xs) → AreOversOf overs (history (kept xs))
overs-kept overs xs are =
    grind (arith, alike-kept xs)

pub overs-book : (overs : Overs) (book : List Entry) (items : List Placed) → items ≡ clean_items_of book → AreOversOf overs (history (kept items)) → AreOversOf overs (history_of book)
unfolding history_of clean
overs-book overs book items e are = rw e at are
