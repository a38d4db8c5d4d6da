-- An over item by item: its marks, its runs, how many deliveries count, and the newest whose marks have room.
use Rattle.std.proofs.lemmas.Grind.{common_steps}
use Rattle.std.proofs.lemmas.List.{at_drop_more}
use Rattle.std.proofs.Common.{arith, ◌≡◌, ℕ, ◌+◌, ◌<◌, Bool, List, [], ◌∷◌, ◌++◌, length, take, drop, get_or, refl, append-nil, append_assoc}
use Rattle.std.specs.Prelude.{if◌then◌else◌}
use Rattle.notation.specs.declared.entry.{Ball.Ball, Plain.Plain}
use Rattle.ball_laws.specs.Over.{counting}
use Rattle.ball_laws.specs.Sums.{tally}
use Rattle.match_laws.specs.Figures.{runs_of}
use Rattle.corrections.specs.declared.placed.Placed.{Placed}
use Rattle.corrections.specs.Overs.{balls_of, bowled, with_balls}
use Rattle.corrections.proofs.OverLemmas.{balls_all, balls_more}
use Rattle.streams.proofs.Appending.{appends_both, appends_none}
use Rattle.score_rows.specs.declared.room.Room.{Room}
use Rattle.score_rows.specs.declared.room.Room.TheVariants.{Full}
use Rattle.score_rows.specs.Fit.{behind, is_left}
use Rattle.score_rows.specs.Row.{marks, newest}
use Rattle.score_rows.specs.inner.Items.{item_counts, item_mark, item_runs}
use Rattle.score_rows.proofs.Rooms.{behind_both, behind_nothing}

pub marks-bowled : (item : Plain) (over : List Ball) → marks (bowled item over) ≡ marks over ++ item_mark item
marks-bowled item over = grind (arith, append-nil)

pub runs-bowled : (item : Plain) (over : List Ball) → tally runs_of (bowled item over) ≡ tally runs_of over + item_runs item
runs-bowled item over = grind arith

pub counts-bowled : (item : Plain) (over : List Ball) → counting (bowled item over) ≡ counting over + item_counts item
counts-bowled item over = grind arith

-- balls_more, in the form that `grind` finds by the item at k
pub balls_at : (items : List Placed) (k : ℕ) (x : Placed) → k < length items → x ≡ get_or items k x
    → (get_or items k x ≡ get_or items k x) × (balls_of (take (k + 1) items) ≡ bowled x.item (balls_of (take k items)))
balls_at items k x within here = (refl, balls_more items k x within here)

-- what a loop over the items of an over needs
pub ruleset item_by_item =
    (arith, common_steps, balls_all, balls_at, marks-bowled, runs-bowled, counts-bowled, appends_both, appends_none, behind_both, behind_nothing)

bowled-first : (item : Plain) (over : List Ball) → bowled item over ≡ bowled item [] ++ over
bowled-first item over = grind arith

with-balls : (over : List Ball) (xs : List Placed) → with_balls over xs ≡ balls_of xs ++ over
with-balls over [] = refl
with-balls over (x ∷ xs) = grind (arith, common_steps, bowled-first, append_assoc, (with-balls (bowled x.item over) xs), (with-balls (bowled x.item []) xs))

-- one item more adds its delivery, if it is one, to the over
pub balls_push : (over : List Ball) (xs : List Placed) (x : Placed) → with_balls over (xs ++ x ∷ []) ≡ bowled x.item (with_balls over xs)
balls_push over [] x = refl
balls_push over (y ∷ ys) x = balls_push (bowled y.item over) ys x

newest-in_full : (over : List Ball) → newest Full over ≡ []
newest-in_full [] = refl
newest-in_full (b ∷ older) = refl

newest-bowled : (room : Room) (item : Plain) (over : List Ball) → newest room (bowled item over)
    ≡ (if is_left (behind room (item_mark item)) then bowled item [] ++ newest (behind room (item_mark item)) over else [])
newest-bowled room item over = grind (arith, common_steps, newest-in_full, behind_nothing)

joined : (is_all : Bool) (front one rest all : List Ball) → all ≡ front ++ one → front ++ (if is_all then one ++ rest else []) ≡ (if is_all then all ++ rest else front)
joined is_all front one rest all e = grind (arith, append-nil, append_assoc)

module _ (items : List Placed) (k : ℕ) (x : Placed) (within : k < length items) (here : x ≡ get_or items k x) where
  balls-dropped : balls_of (drop k items) ≡ balls_of (drop (k + 1) items) ++ bowled x.item []
  balls-dropped = grind (arith, common_steps, at_drop_more, with-balls)

  pub newest_more : (room : Room) → balls_of (drop (k + 1) items) ++ newest room (balls_of (take (k + 1) items))
      ≡ (if is_left (behind room (item_mark x.item)) then balls_of (drop k items) ++ newest (behind room (item_mark x.item)) (balls_of (take k items))
      else balls_of (drop (k + 1) items))
  newest_more room =
      let over = balls_of (take k items) in
      let left = behind room (item_mark x.item) in
      rw (balls_more items k x within here, newest-bowled room x.item over)
      (joined (is_left left) (balls_of (drop (k + 1) items)) (bowled x.item []) (newest left over) (balls_of (drop k items)) balls-dropped)
