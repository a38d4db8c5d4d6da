-- A reader's sums for batters and bowlers are the figures of the card.
use Rattle.std.proofs.Common.{◌≡◌, ℕ, ◌+◌, ◌*◌, ◌≤◌, ◌==◌, ◌&&◌, not, cond, if◌then◌else◌, Bool, true, List, [], ◌∷◌, All, Option, Some, refl, ◌∙◌, arith, eqb-true, eq-eqb, bytes_eq, codes}
use Rattle.std.specs.List.{filter_map, list_all}
use Rattle.std.proofs.lemmas.Bool.Decides.{nat_tests}
use Rattle.std.proofs.lemmas.Slice.Eq.{bytes_eq-Decides}
use Rattle.notation.specs.declared.entry.{Ball.Ball, Entry.Entry, Side.Side}
use Rattle.notation.specs.Written.{IsEntry}
use Rattle.ball_laws.specs.declared.ends.Ends.{Ends}
use Rattle.ball_laws.specs.History.{History}
use Rattle.ball_laws.specs.Over.{counting, counts, debit, debit_of, is_wide_or_no_ball}
use Rattle.ball_laws.specs.Sums.{count_of, one_if, tally}
use Rattle.match_laws.specs.History.{deliveries, innings_overs, is_at, is_of, opponent, side_of, since_call}
use Rattle.match_laws.specs.Figures.{alone, bowler_in, batted_of, batter_runs, batting_order, bowled_by, is_maiden, maidens}
use Rattle.match_laws.specs.Figures.{bowler_balls, bowler_noballs, bowler_overs, bowler_runs, bowler_wickets}
use Rattle.match_laws.specs.Figures.{bowler_wides, bowling_order, counting_by, credited, faced, faced_of, fours}
use Rattle.match_laws.specs.Figures.{fours_of, is_odd_over, named_once, noballs_of, odd_overs, of_bowler}
use Rattle.match_laws.specs.Figures.{of_striker, shared_by, sixes, sixes_of, wides_of}
use Rattle.corrections.specs.CleanList.{history_of}
use Rattle.corrections.specs.Legal.{IsLegalBook}
use Rattle.cards.specs.Sheet.{Sheet, player_of}
use Rattle.json.specs.Json.{Json}
use Rattle.archive_deliveries.specs.declared.notes.Noted.{Noted}
use Rattle.archive_deliveries.specs.Deliveries.{delivery_of, is_run}
use Rattle.export.specs.Laws.{at, innings_at, is_text}
use Rattle.export.specs.Readers.{BatterAddsUp, BowlerAddsUp, OversAreSixes, HasOwnName, NamesTellPlayers, bat_runs}
use Rattle.export.specs.Readers.{boundary_in, bowled_in, credited_in, dead_ball, debited_in, faced_in, four_outrun}
use Rattle.export.specs.Readers.{is_namesakes, maidens_by, namesakes_maidens, namesakes_overs, noballs_in, open_maiden}
use Rattle.export.specs.Readers.{open_over, over_balls, overs_by, six_outrun, summed, wides_in}
use Rattle.export.proofs.ReaderLemmas.{bat_read, batter_read, boundary_read, bowled_read, credited_read}
use Rattle.export.proofs.ReaderLemmas.{debited_read, faced_read, noballs_read, wides_read}
use Rattle.export.proofs.SumLemmas.{sum_read}
use Rattle.export.proofs.OverLemmas.{is_full, overs_read}
use Rattle.export.proofs.OverSums.{full_maiden, of_test, overs_by_names, overs_named}
use Rattle.export.proofs.LineLemmas.{AreNamed, bowlers_named, by_players, comers, picked, picked-own, sum_if, strikers_named, takes}

-- a reader's number of each delivery is a number of its ball
abbrev Reads : Sheet → Side → (Json → ℕ) → (Ball → ℕ) → Type 0
Reads s side g f = (penalty : ℕ) (early late : List Noted) (ends : Ends) (b : Ball) → b.ran ≤ 20 → g (delivery_of s side penalty early ends b late) ≡ f b

-- ---- a bowler's balls

abbrev counted_one : Ball → ℕ
counted_one b = one_if (counts b)

abbrev bowled_one : Ball → ℕ
bowled_one b = one_if (not (is_wide_or_no_ball b.kind))

all_by : (p : ℕ) (bs : List Ball) → list_all (bowled_by p) bs ≡ true → counting_by p bs ≡ counting bs
all_by p [] e = refl
all_by p (b ∷ bs) e = grind (arith, all_by p bs)

-- a bowler's balls in called overs are those of the overs that he bowled alone and those of the others
overs_apart : (p : ℕ) (overs : List (List Ball)) → tally (counting_by p) overs
    ≡ tally (λ over. if alone p over then counting over else 0) overs + tally (shared_by p) overs
overs_apart p [] = refl
overs_apart p (over ∷ overs) = grind (arith, overs_apart p overs, all_by p over)

-- each delivery of an innings is in a called over, or after the last call
by_overs : (h : History) (i p : ℕ) → tally (of_bowler counted_one i p) (deliveries h)
    ≡ tally (counting_by p) (innings_overs h i) + counting_by p (since_call h i)
by_overs [] i p = refl
by_overs (x ∷ h) i p = grind (arith, by_overs h i p)

balls_of : (h : History) (i p : ℕ) → over_balls h i p + bowler_balls h i p + tally (of_bowler dead_ball i p) (deliveries h)
    ≡ tally (of_bowler bowled_one i p) (deliveries h)
unfolding bowler_balls
balls_of h i p =
    let dead = sum_if (λ d. is_of i d && ((d.ball).bowler == p)) (λ d. counted_one d.ball) (λ d. dead_ball d.ball)
    (λ d. bowled_one d.ball) (λ d. grind arith) (deliveries h) in
    omega (arith, dead, by_overs h i p, overs_apart p (innings_overs h i))

-- ---- called overs, and the open one

with_true : (b : Bool) → b ≡ b && true
with_true b = grind arith

overs_and_open : (h : History) (i p : ℕ) → bowler_overs h i p + open_over h i p ≡ count_of (alone p) (since_call h i ∷ innings_overs h i)
unfolding bowler_overs
overs_and_open h i p = grind arith

maidens_and_open : (h : History) (i p : ℕ) → maidens h i p + open_maiden h i p ≡ count_of (is_maiden p) (since_call h i ∷ innings_overs h i)
unfolding maidens
maidens_and_open h i p = grind arith

-- ---- sums by names

module _ (s : Sheet) (n : ℕ) (book : List Entry) (all : All IsEntry book) (legal : IsLegalBook n book) (i : ℕ) (name : List ℕ) where
  abbrev h : History
  h = history_of book

  -- sums by the name of a player in the delivery: its batter or its bowler
  module _ (key : List ℕ) (who : Option ℕ → Ball → Option ℕ) (test : ℕ → Bool) (names : List ℕ)
      (told : (penalty : ℕ) (early late : List Noted) (ends : Ends) (b : Ball) →
      is_text name (at key (delivery_of s (side_of h i) penalty early ends b late)) ≡ takes test (who ends.striker b))
      (named : AreNamed i (λ d. who d.striker d.ball) names (deliveries h)) where
    name_sum : (g : Json → ℕ) (f : Ball → ℕ) → Reads s (side_of h i) g f → summed key g name (innings_at s book i)
        ≡ picked test (λ p. tally (λ d. if is_of i d && is_at (who d.striker d.ball) p then f d.ball else 0) (deliveries h)) (named_once names)
    name_sum g f reads =
        sum_read (λ striker b. cond (takes test (who striker b)) (f b) 0) s n book i (λ d. if is_text name (at key d) then g d else 0) all legal
        (λ penalty early late ends b low. rw (told penalty early late ends b, reads penalty early late ends b low) refl)
        ∙ by_players i (λ d. who d.striker d.ball) test f names (deliveries h) named

  -- ---- batters

  abbrev bats : ℕ → Bool
  bats p = bytes_eq name (player_of s (side_of h i) p)

  batter_sum : (g : Json → ℕ) (f : Ball → ℕ) → Reads s (side_of h i) g f → summed (codes "batter") g name (innings_at s book i)
      ≡ picked bats (λ p. tally (of_striker f i p) (deliveries h)) (batting_order h i)
  unfolding batting_order
  batter_sum = name_sum (codes "batter") (λ striker b. striker) bats (comers h i)
      (λ penalty early late ends b. batter_read s (side_of h i) penalty early late ends b name) (strikers_named h i)

  boundaries : (m : ℕ) (out all_of : Ball → ℕ) → ((b : Ball) → one_if ((batted_of b == m) && not (is_run b)) + out b ≡ all_of b) →
      summed (codes "batter") (boundary_in m) name (innings_at s book i) + picked bats (λ p. tally (of_striker out i p) (deliveries h)) (batting_order h i)
      ≡ picked bats (λ p. tally (of_striker all_of i p) (deliveries h)) (batting_order h i)
  boundaries m out all_of adds =
      let told : Ball → ℕ = λ b. one_if ((batted_of b == m) && not (is_run b)) in
      rw (batter_sum (boundary_in m) told (boundary_read m s (side_of h i)))
      (sum_if bats (λ p. tally (of_striker told i p) (deliveries h)) (λ p. tally (of_striker out i p) (deliveries h)) _
      (λ p. sum_if (λ d. is_of i d && is_at d.striker p) (λ d. told d.ball) (λ d. out d.ball)
      (λ d. all_of d.ball) (λ d. adds d.ball) (deliveries h)) (batting_order h i))

  pub batter_adds_up : BatterAddsUp s h i (innings_at s book i) name
  unfolding batter_runs faced fours sixes
  batter_adds_up = record {
    runs = batter_sum bat_runs batted_of (bat_read s (side_of h i));
    balls = batter_sum faced_in faced_of (faced_read s (side_of h i));
    fours = boundaries 4 four_outrun fours_of (λ b. grind (arith, nat_tests));
    sixes = boundaries 6 six_outrun sixes_of (λ b. grind (arith, nat_tests));
  }

  -- ---- bowlers

  abbrev bowls : ℕ → Bool
  bowls p = bytes_eq name (player_of s (opponent (side_of h i)) p)

  bowler_sum : (g : Json → ℕ) (f : Ball → ℕ) → Reads s (side_of h i) g f → summed (codes "bowler") g name (innings_at s book i)
      ≡ picked bowls (λ p. tally (of_bowler f i p) (deliveries h)) (bowling_order h i)
  unfolding bowling_order
  bowler_sum = name_sum (codes "bowler") (λ striker b. Some b.bowler) bowls (filter_map (bowler_in i) (deliveries h))
      (λ penalty early late ends b. refl) (bowlers_named i (deliveries h))

  bowlers_balls : summed (codes "bowler") bowled_in name (innings_at s book i)
      ≡ picked bowls (over_balls h i) (bowling_order h i) + picked bowls (bowler_balls h i) (bowling_order h i)
      + picked bowls (λ p. tally (of_bowler dead_ball i p) (deliveries h)) (bowling_order h i)
  bowlers_balls =
      let order = bowling_order h i in
      let own = λ (p : ℕ). over_balls h i p + bowler_balls h i p in
      let inner = sum_if bowls (over_balls h i) (bowler_balls h i) own (λ p. refl) order in
      let outer = sum_if bowls own (λ p. tally (of_bowler dead_ball i p) (deliveries h)) (λ p. tally (of_bowler bowled_one i p) (deliveries h))
      (balls_of h i) order in
      omega (arith, bowler_sum bowled_in bowled_one (bowled_read s (side_of h i)), inner, outer)

  abbrev all_overs : List (List Ball)
  all_overs = since_call h i ∷ innings_overs h i

  abbrev of_namesakes : List Ball → Bool
  of_namesakes = is_namesakes s (opponent (side_of h i)) name

  bowlers_overs : overs_by name (innings_at s book i)
      ≡ picked bowls (bowler_overs h i) (bowling_order h i) + picked bowls (open_over h i) (bowling_order h i) + namesakes_overs s h i name
  unfolding bowling_order
  bowlers_overs =
      let read = overs_read s n book i (λ d. is_text name (at (codes "bowler") d)) (of_test bowls) all legal (λ penalty early late ends b low. refl) in
      let names = overs_by_names bowls (λ over. true) (is_full (of_test bowls)) alone of_namesakes (λ over. with_true (is_full (of_test bowls) over))
      (λ p over. with_true (alone p over)) (λ over. with_true (of_namesakes over))
      (filter_map (bowler_in i) (deliveries h)) all_overs (overs_named h i) in
      let both = sum_if bowls (bowler_overs h i) (open_over h i) (λ p. count_of (alone p) all_overs) (overs_and_open h i) (bowling_order h i) in
      omega (arith, read, names, both)

  bowlers_maidens : maidens_by name (innings_at s book i)
      ≡ picked bowls (maidens h i) (bowling_order h i) + picked bowls (open_maiden h i) (bowling_order h i) + namesakes_maidens s h i name
  unfolding bowling_order
  bowlers_maidens =
      let told : Ball → Bool = λ b. bowls b.bowler && (debit_of b == 0) in
      let read = overs_read s n book i (λ d. is_text name (at (codes "bowler") d) && (debited_in d == 0)) told all legal
      (λ penalty early late ends b low. rw (debited_read s (side_of h i) penalty early late ends b low) refl) in
      let names = overs_by_names bowls (λ over. debit over == 0) (is_full told) is_maiden (λ over. of_namesakes over && (debit over == 0))
      (full_maiden (of_test bowls)) (λ p over. refl) (λ over. refl)
      (filter_map (bowler_in i) (deliveries h)) all_overs (overs_named h i) in
      let both = sum_if bowls (maidens h i) (open_maiden h i) (λ p. count_of (is_maiden p) all_overs) (maidens_and_open h i) (bowling_order h i) in
      omega (arith, read, names, both)

  pub bowler_adds_up : BowlerAddsUp s h i (innings_at s book i) name
  unfolding bowler_runs bowler_wickets bowler_wides bowler_noballs
  bowler_adds_up = record {
    balls = bowlers_balls;
    runs = bowler_sum debited_in debit_of (debited_read s (side_of h i));
    wickets = bowler_sum credited_in credited (λ penalty early late ends b low. credited_read s (side_of h i) penalty early late ends b);
    wides = bowler_sum wides_in wides_of (wides_read s (side_of h i));
    noballs = bowler_sum noballs_in noballs_of (noballs_read s (side_of h i));
    overs = bowlers_overs;
    maidens = bowlers_maidens;
  }

-- ---- overs of six

sixes_each : (p : ℕ) (overs : List (List Ball)) → count_of is_odd_over overs ≡ 0 →
    tally (λ over. if alone p over then counting over else 0) overs ≡ 6 * count_of (alone p) overs
sixes_each p [] e = refl
sixes_each p (over ∷ overs) e = grind (arith, nat_tests, sixes_each p overs, eqb-true (counting over) 6)

pub overs_are_sixes : (h : History) → OversAreSixes h
unfolding odd_overs bowler_overs
overs_are_sixes h i p none = sixes_each p (innings_overs h i) none

-- ---- names of their own

own_name : (s : Sheet) (side : Side) (figure : ℕ → ℕ) (p : ℕ) (names : List ℕ) → HasOwnName s side (named_once names) p →
    picked (λ q. bytes_eq (player_of s side p) (player_of s side q)) figure (named_once names) ≡ figure p
own_name s side figure p names has = picked-own _ figure p names has.listed λ q there.
    let same = bytes_eq-Decides (player_of s side p) (player_of s side q) in
    grind (arith, same.0, same.1, λ (e : player_of s side q ≡ player_of s side p). has.own q there e, eqb-true p q, eq-eqb p q)

pub names_tell_players : (s : Sheet) (h : History) (i p : ℕ) (figure : History → ℕ → ℕ → ℕ) → NamesTellPlayers s h i p figure
unfolding batting_order bowling_order
names_tell_players s h i p figure = record {
  batters = own_name s (side_of h i) (figure h i) p (comers h i);
  bowlers = own_name s (opponent (side_of h i)) (figure h i) p (filter_map (bowler_in i) (deliveries h));
}
