-- What a side that bats last needs, and when it has won.
use Rattle.std.proofs.Common.{◌≡◌, ℕ, zero, suc, ◌+◌, ◌-◌, ◌≤◌, ◌<◌, Bool, true, Some, [], ◌∷◌, refl, sym, subst, ap, ◌∙◌, arith, ◌⊎◌}
use Rattle.std.proofs.lemmas.Bool.{le-leb, leb-true}
use Rattle.std.specs.Prelude.{nat_le, nat_lt, if◌then◌else◌}
use Rattle.notation.specs.declared.entry.Side.{Side}
use Rattle.notation.specs.declared.entry.Side.TheVariants.{Home, Away}
use Rattle.ball_laws.specs.History.{History}
use Rattle.match_laws.specs.declared.outcome.Outcome.{Outcome}
use Rattle.match_laws.specs.declared.outcome.Outcome.TheVariants.{Undecided, Draw, Tie, Wickets}
use Rattle.match_laws.specs.History.{side_eq, side_of, is_side, last_side, is_open, is_closed, opponent}
use Rattle.match_laws.specs.Figures.{total, wickets}
use Rattle.match_laws.specs.Result.{side_total, current, is_chasing, leads, has_won, won_by, needed, outcome, target}
use Rattle.match_laws.specs.Refusals.{IsLegal}
use Rattle.match_laws.specs.Chases.{BatsLast, ChaseTells, HasReachedTarget, WonByWickets}
use Rattle.match_laws.proofs.LegalLemmas.{begun_few}

-- ---- the side of the innings that began last

side_current : (h : History) (side : Side) → is_side (last_side h) side ≡ true → side_eq (side_of h (current h)) side ≡ true
side_current [] side e = cc
side_current (x ∷ h) side e = grind (arith, side_current h side)

own_total : (h : History) (side : Side) (k : ℕ) → k < 4 → side_eq (side_of h k) side ≡ true → total h k ≤ side_total h side
unfolding side_total
own_total h side zero lt e = grind arith
own_total h side (suc zero) lt e = grind arith
own_total h side (suc (suc zero)) lt e = grind arith
own_total h side (suc (suc (suc k))) lt e = search arith

current_total : (n : ℕ) (h : History) (side : Side) → n ≤ 2 → IsLegal n h → is_side (last_side h) side ≡ true →
    total h (current h) ≤ side_total h side
current_total n h side le legal e = search (arith, begun_few, own_total, side_current)

-- ---- a side leads exactly if it has reached what it needs

reach_same : (theirs ours here : ℕ) → here ≤ ours → nat_lt theirs ours ≡ nat_le (theirs + 1 - (ours - here)) here
reach_same theirs ours here le = grind arith

-- ---- the outcome if a side has won

outcome_won : (n : ℕ) (h : History) (side : Side) → has_won n h side ≡ true → outcome n h ≡ won_by n h side
unfolding outcome
outcome_won n h side e = grind arith

-- ---- a side that bats last

chasing_last : (n : ℕ) (h : History) (side : Side) → BatsLast n h side → is_chasing n h side ≡ is_open h
chasing_last n h side b = grind arith

won_last : (n : ℕ) (h : History) (side : Side) → BatsLast n h side → has_won n h side ≡ leads h side
won_last n h side b = rw (chasing_last n h side b, b.after_other) (grind arith)

aims_last : (n : ℕ) (h : History) (side : Side) → BatsLast n h side → is_open h ≡ true → target n h ≡ Some (needed h side)
unfolding target
aims_last n h side b going = grind (arith, chasing_last)

pub chase_tells : (n : ℕ) (h : History) → n ≤ 2 → IsLegal n h → (side : Side) → BatsLast n h side → ChaseTells n h side
chase_tells n h le legal side b =
    let won = won_last n h side b ∙ reach_same (side_total h (opponent side)) (side_total h side) (total h (current h))
    (current_total n h side le legal b.began_last) in
    record {
      won = won;
      aims = aims_last n h side b;
      in_play = λ going there. outcome_won n h side (won ∙ there) ∙ rw going refl;
      ended = λ shut there. outcome_won n h side (won ∙ there) ∙ grind (arith, b.began_last);
    }

-- ---- a win by wickets

-- the side has won while it bats
record WinsInPlay (n : ℕ) (h : History) (side : Side) (left : ℕ) : Type 0 where
  pub won : has_won n h side ≡ true
  pub going : is_open h ≡ true
  pub is_left : 10 - wickets h (current h) ≡ left

wins_in_play : (n : ℕ) (h : History) (s side : Side) (left : ℕ) → has_won n h s ≡ true → won_by n h s ≡ Wickets side left →
    WinsInPlay n h side left
wins_in_play n h s side left won e =
    let same : s ≡ side = grind (arith, e) in
    record { won = subst (λ x. has_won n h x ≡ true) same won; going = grind (arith, e); is_left = grind (arith, e) }

-- an outcome by wickets is the wording of a side that has won
whose : (home away both closed : Bool) (x y : Outcome) (side : Side) (left : ℕ)
    → (if home then x else (if away then y else (if both then Tie else (if closed then Draw else Undecided)))) ≡ Wickets side left
    → ((home ≡ true) × (x ≡ Wickets side left)) ⊎ ((away ≡ true) × (y ≡ Wickets side left))
whose home away both closed x y side left e = grind arith

by_wickets : (n : ℕ) (h : History) (side : Side) (left : ℕ) → outcome n h ≡ Wickets side left → WinsInPlay n h side left
unfolding outcome
by_wickets n h side left e =
    grind (arith, whose _ _ _ (is_closed h) (won_by n h Home) (won_by n h Away) side left e, wins_in_play)

bats_last : (n : ℕ) (h : History) (side : Side) → is_chasing n h side ≡ true → BatsLast n h side
bats_last n h side e = record { began_last = grind arith; no_more = grind arith; after_other = grind arith }

pub won_by_wickets : (n : ℕ) (h : History) → n ≤ 2 → IsLegal n h → (side : Side) (left : ℕ) → WonByWickets n h side left
won_by_wickets n h le legal side left = record { only = only; always = always }
  where
    only : outcome n h ≡ Wickets side left → HasReachedTarget n h side left
    only e =
        let w = by_wickets n h side left e in
        let chases : is_chasing n h side ≡ true = grind (arith, w.won, w.going) in
        let tells = chase_tells n h le legal side (bats_last n h side chases) in
        record {
          chases = chases;
          runs = needed h side;
          aims = tells.aims w.going;
          reached = leb-true (needed h side) (total h (current h)) (sym tells.won ∙ w.won);
          wickets_left = sym w.is_left;
        }

    always : HasReachedTarget n h side left → outcome n h ≡ Wickets side left
    always r =
        let tells = chase_tells n h le legal side (bats_last n h side r.chases) in
        let going : is_open h ≡ true = grind (arith, r.chases) in
        let runs : needed h side ≡ r.runs = let aims = tells.aims going in cc in
        let there = le-leb (needed h side) (total h (current h)) (omega (arith, runs, r.reached)) in
        tells.in_play going there ∙ ap (Wickets side) (sym r.wickets_left)
