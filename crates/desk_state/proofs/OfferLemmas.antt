-- The Laws accept what a state offers.
use Rattle.std.proofs.Common.{arith, ◌≡◌, ◌⊎◌, inl, inr, ℕ, ◌<◌, ◌≤◌, Bool, true, false, ◌&&◌, ◌||◌, nat_eq, nat_le, Option, Some, None, length, refl, ap, ◌∙◌}
use Rattle.std.specs.Prelude.{◌==◌, is_none, option_map, if◌then◌else◌}
use Rattle.std.proofs.lemmas.Bool.{and_parts, cases_Bool}
use Rattle.notation.specs.declared.entry.{Plain.Plain, Side.Side}
use Rattle.notation.specs.declared.entry.Side.TheVariants.{Home, Away}
use Rattle.ball_laws.specs.declared.over.TheConstants.{MOST_DELIVERIES}
use Rattle.ball_laws.specs.declared.refusals.BallRefusal.{BallRefusal}
use Rattle.ball_laws.specs.declared.refusals.BallRefusal.TheVariants.{BowlerTwoOvers, NoBatter, OverLong}
use Rattle.ball_laws.specs.History.{History}
use Rattle.ball_laws.specs.Ends.{has_vacancy}
use Rattle.ball_laws.specs.Laws.{state_after}
use Rattle.ball_laws.specs.Over.{bowled_in, counting}
use Rattle.ball_laws.proofs.Overs.{this_over-state_after}
use Rattle.match_laws.specs.declared.outcome.Outcome.{Outcome}
use Rattle.match_laws.specs.declared.outcome.Outcome.TheVariants.{Draw, Tie, Undecided}
use Rattle.match_laws.specs.declared.refusals.LawRefusal.{LawRefusal}
use Rattle.match_laws.specs.declared.refusals.LawRefusal as laws
use Rattle.match_laws.specs.History.{begun_by, completed_by, entries, is_closed, is_open, opponent, or_else}
use Rattle.match_laws.specs.Figures.{balls}
use Rattle.match_laws.specs.Result.{current, has_won, is_decided, is_finished, outcome, won_by}
use Rattle.match_laws.specs.Refusals.{is_out_of_play, is_wrong_side, refusal}
use Rattle.limits.specs.Figures as limits
use Rattle.cards.specs.Sheet.{Sheet}
use Rattle.scoreboard.proofs.LawLemmas.{counts_this_over}
use Rattle.desk_state.specs.declared.wants.Wants.{Wants}
use Rattle.desk_state.specs.Wants.{is_undecided, wants, wants_delivery}
use Rattle.desk_state.specs.Players.{dot_of, is_playable, may_bowl, may_come_in}

-- ---- a delivery

abbrev ball_rows : Bool → Bool → Bool → Option BallRefusal
ball_rows vacant two long =
    if vacant then Some NoBatter else (if two then Some BowlerTwoOvers else (if long then Some OverLong else None))

abbrev all_rows : Bool → Bool → Bool → Bool → Option BallRefusal → Option LawRefusal
all_rows many closed won out ball =
    or_else (if many then Some laws.TheVariants.TooMany else (if closed then Some laws.TheVariants.MatchClosed
    else (if won then Some laws.TheVariants.MatchWon else (if out then Some laws.TheVariants.NotInPlay else None))))
    (option_map laws.TheVariants.Ball ball)

rows_taken : (many closed won out vacant two long : Bool) → vacant ≡ false
    → is_playable (all_rows many closed won out (ball_rows vacant two long)) ≡ true → all_rows many closed won out (ball_rows vacant two long) ≡ None
rows_taken true closed won out vacant two long full e = absurd cc
rows_taken false true won out vacant two long full e = absurd cc
rows_taken false false true out vacant two long full e = absurd cc
rows_taken false false false true vacant two long full e = absurd cc
rows_taken false false false false true two long full e = absurd cc
rows_taken false false false false false true long full e = absurd cc
rows_taken false false false false false false true full e = absurd cc
rows_taken false false false false false false false full e = refl

delivery_taken : (n : ℕ) (h : History) (p : ℕ) → has_vacancy (state_after h).ends ≡ false
    → is_playable (refusal n h (Plain.Ball (dot_of p))) ≡ true → refusal n h (Plain.Ball (dot_of p)) ≡ None
unfolding refusal
delivery_taken n h p full e =
    let s = state_after h in
    rows_taken (nat_le 8192 (entries h)) (is_closed h) (is_decided n h && true) (is_out_of_play h) (has_vacancy s.ends) (bowled_in p s.last_over)
    (nat_le MOST_DELIVERIES (length s.this_over)) full e

pub delivery_of_taken : (s : Sheet) (n : ℕ) (h : History) (p : ℕ) → has_vacancy (state_after h).ends ≡ false → may_bowl s n h p ≡ true
    → refusal n h (Plain.Ball (dot_of p)) ≡ None
delivery_of_taken s n h p full may = delivery_taken n h p full (and_parts (limits.may_bowl s.limits.overs_a_bowler p h) _ may).1

-- ---- a batter

none_is : (r : Option LawRefusal) → is_none r ≡ true → r ≡ None
none_is None e = refl
none_is (Some why) e = absurd cc

pub come_taken : (n : ℕ) (h : History) (p : ℕ) → may_come_in n h p ≡ true → refusal n h (Plain.Come p) ≡ None
come_taken n h p may = none_is (refusal n h (Plain.Come p)) may

-- ---- what is wanted

-- the match has no result yet
record GoesOn (n : ℕ) (h : History) : Type 0 where
  decided : is_decided n h ≡ false
  closed : is_closed h ≡ false
  left : (is_finished n h Home && is_finished n h Away) ≡ false

picked : (a b c d : Bool) (x y : Outcome) → is_undecided x ≡ false → is_undecided y ≡ false
    → is_undecided (if a then x else (if b then y else (if c then Tie else (if d then Draw else Undecided)))) ≡ true
    → ((a || b) ≡ false) × (d ≡ false) × (c ≡ false)
picked true b c d x y won lost e = absurd cc
picked false true c d x y won lost e = absurd cc
picked false false true d x y won lost e = absurd cc
picked false false false true x y won lost e = absurd cc
picked false false false false x y won lost e = (refl, refl, refl)

won_not : (n : ℕ) (h : History) (side : Side) → is_undecided (won_by n h side) ≡ false
won_not n h side = grind arith

goes_on : (n : ℕ) (h : History) → is_undecided (outcome n h) ≡ true → GoesOn n h
unfolding outcome is_decided
goes_on n h e =
    let all = picked (has_won n h Home) (has_won n h Away) (is_finished n h Home && is_finished n h Away) (is_closed h) (won_by n h Home) (won_by n h Away)
    (won_not n h Home) (won_not n h Away) e in
    record { decided = all.0; closed = all.1; left = all.2 }

abbrev wanted : Bool → Bool → Bool → Bool → Option ℕ → Wants
wanted undecided in_play vacant six bowler =
    if undecided then (if in_play then (if vacant then Wants.Batter else (if six then Wants.Over else wants_delivery bowler)) else Wants.Innings)
    else Wants.Nothing

over_wanted : (undecided in_play vacant six : Bool) (bowler : Option ℕ) → wanted undecided in_play vacant six bowler ≡ Wants.Over
    → (undecided ≡ true) × (in_play ≡ true) × (six ≡ true)
over_wanted false in_play vacant six bowler e = absurd cc
over_wanted true false vacant six bowler e = absurd cc
over_wanted true true true six bowler e = absurd cc
over_wanted true true false true bowler e = (refl, refl, refl)
over_wanted true true false false None e = absurd cc
over_wanted true true false false (Some p) e = absurd cc

innings_wanted : (undecided in_play vacant six : Bool) (bowler : Option ℕ) → wanted undecided in_play vacant six bowler ≡ Wants.Innings
    → (undecided ≡ true) × (in_play ≡ false)
innings_wanted false in_play vacant six bowler e = absurd cc
innings_wanted true false vacant six bowler e = (refl, refl)
innings_wanted true true true six bowler e = absurd cc
innings_wanted true true false true bowler e = absurd cc
innings_wanted true true false false None e = absurd cc
innings_wanted true true false false (Some p) e = absurd cc

abbrev wants_over : ℕ → History → Type 0
wants_over n h = (is_undecided (outcome n h) ≡ true) × (is_open h ≡ true) × (nat_le 6 (balls h (current h)) ≡ true)

over_is_wanted : (n : ℕ) (h : History) → wants n h ≡ Wants.Over → wants_over n h
over_is_wanted n h e =
    over_wanted (is_undecided (outcome n h)) (is_open h) (has_vacancy (state_after h).ends) (nat_le 6 (balls h (current h))) _ e

innings_is_wanted : (n : ℕ) (h : History) → wants n h ≡ Wants.Innings → (is_undecided (outcome n h) ≡ true) × (is_open h ≡ false)
innings_is_wanted n h e =
    innings_wanted (is_undecided (outcome n h)) (is_open h) (has_vacancy (state_after h).ends) (nat_le 6 (balls h (current h))) _ e

-- ---- the call of over

call_rows : (n : ℕ) (h : History) → GoesOn n h → entries h < 8192 → is_open h ≡ true → nat_eq (counting (state_after h).this_over) 0 ≡ false
    → refusal n h Plain.Over ≡ None
unfolding refusal
call_rows n h on room in_play some =
    let few : nat_le 8192 (entries h) ≡ false = grind arith in
    rw (few, on.closed, on.decided, in_play, some) refl

pub call_taken : (n : ℕ) (h : History) → entries h < 8192 → wants n h ≡ Wants.Over → refusal n h Plain.Over ≡ None
call_taken n h room e =
    let is = over_is_wanted n h e in
    let on = goes_on n h is.0 in
    let same = ap counting (this_over-state_after h) ∙ counts_this_over h is.1 in
    let some : nat_eq (counting (state_after h).this_over) 0 ≡ false = grind (arith, same, is.2) in
    call_rows n h on room is.1 some

-- ---- an innings

-- one of the sides may begin, by the number of innings that each has begun
abbrev is_wrong : ℕ → ℕ → ℕ → Bool
is_wrong n own other = (own == n) || ((own == 1) && (other == 0))

one_may : (n a b : ℕ) → 1 ≤ n → ((a == n) && (b == n)) ≡ false → (is_wrong n a b ≡ false) ⊎ (is_wrong n b a ≡ false)
one_may n a b some left = elim (cases_Bool (a == n)) [
  | inl all ↦ inr (grind arith)
  | inr more ↦ elim (cases_Bool ((a == 1) && (b == 0))) [
    | inl first ↦ inr (grind arith)
    | inr may ↦ inl (grind arith)
  ]
]

completed_all : (h : History) (side : Side) → is_open h ≡ false → completed_by h side ≡ begun_by h side
completed_all h side shut = rw shut (omega arith)

begin_rows : (n : ℕ) (h : History) (side : Side) → GoesOn n h → entries h < 8192 → is_open h ≡ false → is_wrong_side n h side ≡ false
    → refusal n h (Plain.Innings side) ≡ None
unfolding refusal
begin_rows n h side on room shut right =
    let few : nat_le 8192 (entries h) ≡ false = grind arith in
    rw (few, on.closed, on.decided, right, shut) refl

wrong_is : (n : ℕ) (h : History) (side : Side) → is_open h ≡ false → is_wrong n (begun_by h side) (begun_by h (opponent side)) ≡ false
    → is_wrong_side n h side ≡ false
wrong_is n h side shut e = rw (completed_all h (opponent side) shut) e

pub begin_taken : (n : ℕ) (h : History) → 1 ≤ n → entries h < 8192 → wants n h ≡ Wants.Innings
    → (refusal n h (Plain.Innings Home) ≡ None) ⊎ (refusal n h (Plain.Innings Away) ≡ None)
begin_taken n h some room e =
    let is = innings_is_wanted n h e in
    let on = goes_on n h is.0 in
    let left : ((begun_by h Home == n) && (begun_by h Away == n)) ≡ false = rw (← completed_all h Home is.1, ← completed_all h Away is.1) on.left in
    elim (one_may n (begun_by h Home) (begun_by h Away) some left) [
      | inl may ↦ inl (begin_rows n h Home on room is.1 (wrong_is n h Home is.1 may))
      | inr may ↦ inr (begin_rows n h Away on room is.1 (wrong_is n h Away is.1 may))
    ]
