-- A reader's sums over all deliveries are the innings' extras and its balls.
use Rattle.std.proofs.Common.{◌≡◌, ℕ, ◌+◌, ◌*◌, ◌<◌, ◌≤◌, ◌^◌, not, Bool, List, [], ◌∷◌, All, length, codes, refl, ap, ◌∙◌, arith, eqb-true}
use Rattle.std.specs.List.{flat_map}
use Rattle.std.proofs.lemmas.Bool.Decides.{nat_tests}
use Rattle.std.proofs.lemmas.Fmt.{digits_value-decimal}
use Rattle.notation.specs.declared.entry.{Side.Side, Ball.Ball, Entry.Entry, Plain.Plain}
use Rattle.notation.specs.declared.entry.Plain.TheVariants.{Ball as Bowl}
use Rattle.notation.specs.Written.{IsEntry}
use Rattle.notation.proofs.Numbers.{own}
use Rattle.ball_laws.specs.declared.ends.Ends.{Ends}
use Rattle.ball_laws.specs.History.{History}
use Rattle.ball_laws.specs.Over.{counting, counts, is_wide_or_no_ball}
use Rattle.ball_laws.specs.Sums.{count_of, one_if, tally}
use Rattle.match_laws.specs.History.{Award, awards, deliveries, entries, innings_overs, is_at, is_of, side_of, since_call}
use Rattle.match_laws.specs.Figures.{award_innings, balls, byes, byes_of, is_odd_over, legs, legs_of, noballs, noballs_of}
use Rattle.match_laws.specs.Figures.{odd_overs, of_innings, overs, penalty_runs, wides, wides_of}
use Rattle.match_laws.specs.Parts.{extras_of}
use Rattle.match_laws.proofs.LegalLemmas.{entries_few}
use Rattle.corrections.specs.CleanList.{clean, history_of}
use Rattle.corrections.specs.inner.Scoring.{history_after}
use Rattle.corrections.specs.Legal.{IsLegalBook}
use Rattle.corrections.proofs.LegalLemmas.{history_after-clean, legal_now}
use Rattle.cards.specs.Sheet.{Sheet}
use Rattle.json.specs.Json.{Json, null}
use Rattle.archive_deliveries.specs.declared.{begun.Begun.Begun, notes.Noted.Noted}
use Rattle.archive_deliveries.specs.Notes.{begun_of, carried, items_in}
use Rattle.archive_deliveries.specs.Deliveries.{listed_of, penalties}
use Rattle.export.specs.Innings.{overs_of, runs_after, runs_before}
use Rattle.export.specs.Laws.{IsCount, at, deliveries_in, innings_at, noted_items}
use Rattle.export.specs.Readers.{BallsAddUp, ExtrasAddUp, all_summed, bowled_in, byes_in, dead_ball, legs_in, noballs_in, number_in}
use Rattle.export.specs.Readers.{penalty_besides, penalty_in, wides_in}
use Rattle.export.proofs.LawLemmas.{awards_so_far, penalties_read, places}
use Rattle.export.proofs.LineLemmas.{sum_if}
use Rattle.export.proofs.ReadLemmas.{all_listed, elements-of, in_over, overs_all}
use Rattle.export.proofs.ReaderLemmas.{bowled_read, byes_read, legs_read, noballs_read, penalty_read, wides_read}
use Rattle.export.proofs.SumLemmas.{sum_read}

-- ---- penalty runs

module _ (f : Begun) (i : ℕ) where
  -- the penalty runs that an item carries if it is a delivery, and those of all items
  abbrev own_penalty : Plain → List Noted → ℕ
  own_penalty (Bowl b) late = penalties f i late
  own_penalty _ late = 0

  abbrev pub penalties_of : List Noted → ℕ
  penalties_of [] = 0
  penalties_of (x ∷ xs) = own_penalty x.item (carried xs) + penalties_of xs

  penalties_sum : (xs : List Noted) → penalties_of xs + penalties f i (carried xs) ≡ penalties f i xs
  penalties_sum [] = refl
  penalties_sum (x ∷ xs) = grind (arith, penalties_sum xs)

  module _ (s : Sheet) (side : Side) where
    one_penalty : (early : List Noted) (p : Plain) (ends : Ends) (late : List Noted) → own_penalty p late < 2 ^ 64 →
        tally penalty_in (listed_of s side f i early p ends late) ≡ own_penalty p late
    one_penalty early (Bowl b) ends late small = omega (arith, penalty_read s side (penalties f i late) early late ends b small)
    one_penalty early p ends late small = refl

    penalties_listed : (early xs : List Noted) → penalties_of xs < 2 ^ 64 → tally penalty_in (all_listed s side f i early xs) ≡ penalties_of xs
    penalties_listed early [] small = refl
    penalties_listed early (x ∷ xs) small =
        grind (arith, one_penalty early x.item x.ends (carried xs), penalties_listed [] xs, penalties_listed early xs)

-- the penalty runs of deliveries, and those before and after, are those of the Laws
penalties_added : (book : List Entry) (i : ℕ) →
    let f = begun_of (history_of book) in
    let xs = noted_items book in
    penalties_of f i (items_in i xs) + runs_before f i xs + runs_after f i xs ≡ penalty_runs (history_of book) i
unfolding penalty_runs
penalties_added book i =
    let h = history_after [] (clean book) in
    let f = begun_of h in
    let xs = noted_items book in
    rw (← history_after-clean book) (omega (arith, penalties_sum f i (items_in i xs), places f i xs, awards_so_far h i [] (clean book)))

awards_few : (p : Award → Bool) (h : History) → count_of p (awards h) ≤ entries h
unfolding entries
awards_few p [] = omega arith
awards_few p (x ∷ h) = grind (arith, awards_few p h)

penalties_small : (n : ℕ) (book : List Entry) (i : ℕ) → IsLegalBook n book → penalty_runs (history_of book) i < 2 ^ 64
unfolding penalty_runs
penalties_small n book i legal =
    let h = history_of book in
    omega (arith, awards_few (λ a. is_at (award_innings h a) i) h, entries_few n h (legal_now n book legal))

count_read : (n : ℕ) (v : Json) → IsCount n v → n < 2 ^ 64 → number_in v ≡ n
count_read n null is small = grind (arith, is)
count_read n v is small = ap number_in is ∙ digits_value-decimal own n small

-- ---- all extras

module _ (s : Sheet) (n : ℕ) (book : List Entry) (all : All IsEntry book) (legal : IsLegalBook n book) (i : ℕ) where
  abbrev h : History
  h = history_of book

  penalty_added : all_summed penalty_in (innings_at s book i) + penalty_besides (innings_at s book i) ≡ penalty_runs h i
  penalty_added =
      let f = begun_of h in
      let xs = noted_items book in
      let ys = items_in i xs in
      let side = side_of h i in
      let same : deliveries_in (innings_at s book i) ≡ all_listed s side f i (carried ys) ys =
      ap (flat_map in_over) (elements-of (overs_of s side f i ys)) ∙ overs_all s side f i (carried ys) ys in
      let sum = penalties_added book i in
      let small = penalties_small n book i legal in
      let (pre, post) = penalties_read s book i in
      let listed = ap (tally penalty_in) same ∙ penalties_listed f i s side (carried ys) ys (omega (arith, sum, small)) in
      let there = at (codes "penalty_runs") (innings_at s book i) in
      let before = count_read (runs_before f i xs) (at (codes "pre") there) pre (omega (arith, sum, small)) in
      let after = count_read (runs_after f i xs) (at (codes "post") there) post (omega (arith, sum, small)) in
      omega (arith, listed, before, after, sum)

  pub extras_add_up : ExtrasAddUp (extras_of h i) (innings_at s book i)
  unfolding byes legs wides noballs
  extras_add_up = record {
    wides = sum_read (λ striker b. wides_of b) s n book i wides_in all legal (wides_read s (side_of h i));
    noballs = sum_read (λ striker b. noballs_of b) s n book i noballs_in all legal (noballs_read s (side_of h i));
    byes = sum_read (λ striker b. byes_of b) s n book i byes_in all legal (byes_read s (side_of h i));
    legs = sum_read (λ striker b. legs_of b) s n book i legs_in all legal (legs_read s (side_of h i));
    penalty = penalty_added;
  }

-- ---- balls of an innings

abbrev counted_one : Ball → ℕ
counted_one b = one_if (counts b)

abbrev bowled_one : Ball → ℕ
bowled_one b = one_if (not (is_wide_or_no_ball b.kind))

-- each delivery of an innings is in a called over, or after the last call
by_overs : (h : History) (i : ℕ) → tally (of_innings counted_one i) (deliveries h) ≡ tally counting (innings_overs h i) + counting (since_call h i)
by_overs [] i = refl
by_overs (x ∷ h) i = grind (arith, by_overs h i)

all_sixes : (overs : List (List Ball)) → count_of is_odd_over overs ≡ 0 → tally counting overs ≡ 6 * length overs
all_sixes [] e = refl
all_sixes (over ∷ overs) e = grind (arith, nat_tests, all_sixes overs, eqb-true (counting over) 6)

pub balls_add_up : (s : Sheet) (n : ℕ) (book : List Entry) → All IsEntry book → IsLegalBook n book → BallsAddUp s book
unfolding odd_overs overs balls
balls_add_up s n book all legal i even =
    let h = history_of book in
    let read = sum_read (λ striker b. bowled_one b) s n book i bowled_in all legal (bowled_read s (side_of h i)) in
    let dead = sum_if (λ d. is_of i d) (λ d. counted_one d.ball) (λ d. dead_ball d.ball) (λ d. bowled_one d.ball) (λ d. grind arith) (deliveries h) in
    omega (arith, read, dead, by_overs h i, all_sixes (innings_overs h i) even)
