-- The last five overs counted over the clean list are those of the history.
use Rattle.std.proofs.Common.{arith, ◌≡◌, ◌*◌, ℕ, List, [], ◌∷◌, length, take, refl, ap, ◌∙◌}
use Rattle.notation.specs.declared.entry.{Plain.Plain, Entry.Entry}
use Rattle.ball_laws.specs.History.{History}
use Rattle.ball_laws.specs.Sums.{tally}
use Rattle.corrections.specs.declared.placed.Placed.{Placed}
use Rattle.corrections.specs.CleanList.{clean_items_of, history_of}
use Rattle.limits.specs.Figures.{last_overs}
use Rattle.limits.specs.Rates.{an_over}
use Rattle.limits.specs.inner.Walks.{along, walk}
use Rattle.limits.proofs.WalkLemmas.{PassesVoids, walk_book}
use Rattle.scoreboard.specs.inner.Recent.{five_of, none_recent, recent_after, recent_of, sum_of}

passes : PassesVoids recent_after
passes x s v = grind arith

more : (x : Plain) (h : History) → recent_after x (recent_of h) ≡ recent_of (x ∷ h)
more x h = grind arith

recent_along : (h : History) → along recent_after none_recent h ≡ recent_of h
recent_along [] = refl
recent_along (x ∷ h) = ap (recent_after x) (recent_along h) ∙ more x h

pub recent_book : (book : List Entry) (items : List Placed) → items ≡ clean_items_of book
    → walk recent_after none_recent items ≡ recent_of (history_of book)
recent_book book items is = walk_book recent_after passes none_recent book items is ∙ recent_along (history_of book)

-- five_of has the sum and the number of the first five elements of a list
sum_is : (rs : List ℕ) → sum_of (five_of rs) ≡ tally (λ n. n) (take 5 rs)
sum_is [] = refl
sum_is (a ∷ []) = omega arith
sum_is (a ∷ b ∷ []) = omega arith
sum_is (a ∷ b ∷ c ∷ []) = omega arith
sum_is (a ∷ b ∷ c ∷ d ∷ []) = omega arith
sum_is (a ∷ b ∷ c ∷ d ∷ e ∷ rs) = omega arith

count_is : (rs : List ℕ) → (five_of rs).overs ≡ length (take 5 rs)
count_is [] = refl
count_is (a ∷ []) = refl
count_is (a ∷ b ∷ []) = refl
count_is (a ∷ b ∷ c ∷ []) = refl
count_is (a ∷ b ∷ c ∷ d ∷ []) = refl
count_is (a ∷ b ∷ c ∷ d ∷ e ∷ rs) = omega arith

pub rate_is : (rs : List ℕ) → an_over (sum_of (five_of rs)) (6 * (five_of rs).overs) ≡ last_overs rs
rate_is rs = rw (sum_is rs, count_is rs) refl
