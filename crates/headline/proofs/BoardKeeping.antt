-- What holds of each item of a list, and of each board.
use Rattle.std.proofs.Common.{arith, ◌≡◌, ℕ, zero, suc, Some, List, [], ◌∷◌, ◌++◌}
use Rattle.std.specs.Prelude.{slice_get, slice_set}
use Rattle.agree_core.specs.Ballots.{AllVotes}
use Rattle.agree_core.specs.Boards.{BoardState, fresh_board}
use Rattle.agree_core.specs.Keeping.{BoardFine, Each}
use Rattle.headline.specs.Configurations.{board_at, fresh_boards, with_board}

pub each_append : {X : Type 0} (P : X → Type 0) (xs ys : List X) → Each P xs → Each P ys → Each P (xs ++ ys)
each_append P [] ys h k = k
each_append P (x ∷ xs) ys h k = (h.0, each_append P xs ys h.1 k)

pub each_other : {X : Type 0} (P Q : X → Type 0) → ((x : X) → P x → Q x) → (xs : List X) → Each P xs → Each Q xs
each_other P Q f [] h = tt
each_other P Q f (x ∷ xs) h = (f x h.0, each_other P Q f xs h.1)

pub item_at : {X : Type 0} (P : X → Type 0) (xs : List X) (n : ℕ) (x : X) → slice_get xs n ≡ Some x → Each P xs → P x
item_at P (x ∷ xs) (suc n) m e h = item_at P xs n m e h.1
item_at h0 h1 n m e h = grind arith

item_set : {X : Type 0} (P : X → Type 0) (xs : List X) (n : ℕ) (x : X) → P x → Each P xs → Each P (slice_set xs n x)
item_set P (x ∷ xs) (suc n) k p h = (h.0, item_set P xs n k p h.1)
item_set h0 h1 n k p h = grind arith

pub board_in : (P : BoardState → Type 0) (boards : List BoardState) (n : ℕ) (k : BoardState) → board_at boards n ≡ Some k → Each P boards → P k
board_in P boards n k h0 h1 = grind (arith, item_at)

pub board_fine_at : (v : AllVotes) (boards : List BoardState) (n : ℕ) (k : BoardState) → board_at boards n ≡ Some k → Each (BoardFine v) boards → BoardFine v k
board_fine_at v boards n k e h = board_in (BoardFine v) boards n k e h

pub board_set : (P : BoardState → Type 0) (boards : List BoardState) (n : ℕ) (k : BoardState) → P k → Each P boards → Each P (with_board boards n k)
board_set P boards n k h0 h1 = grind (arith, item_set)

pub fresh_boards_are : (P : BoardState → Type 0) → P fresh_board → (n : ℕ) → Each P (fresh_boards n)
fresh_boards_are P h zero = tt
fresh_boards_are P h (suc n) = (h, fresh_boards_are P h n)
