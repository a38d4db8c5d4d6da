-- Overs by the name of their bowler are those of the players of that name, and those of namesakes.
use Rattle.std.proofs.Common.{◌≡◌, ℕ, ◌+◌, ◌==◌, ◌&&◌, if◌then◌else◌, Bool, true, List, [], ◌∷◌, refl, ap, arith, eqb-true, eq-eqb}
use Rattle.std.specs.List.{filter_map, list_all}
use Rattle.std.proofs.lemmas.Bool.Decides.{nat_tests}
use Rattle.notation.specs.declared.entry.Ball.{Ball}
use Rattle.notation.specs.declared.entry.Plain.TheVariants.{Ball as Bowl}
use Rattle.ball_laws.specs.History.{History}
use Rattle.ball_laws.specs.Over.{debit, debit_of}
use Rattle.ball_laws.specs.Sums.{count_of, one_if}
use Rattle.match_laws.specs.History.{deliveries, innings_overs, since_call}
use Rattle.match_laws.specs.Figures.{alone, bowled_by, bowler_in, named_once}
use Rattle.export.specs.Readers.{is_several}
use Rattle.export.proofs.LineLemmas.{among, picked, picked-none, picked-one, picked-same, sum_if}
use Rattle.export.proofs.OverLemmas.{is_full}

-- ---- the bowler of an over's newest ball is named

abbrev is_named : List ℕ → List Ball → Bool
is_named ps [] = true
is_named ps (b ∷ bs) = among b.bowler ps

abbrev are_named : List ℕ → List (List Ball) → Bool
are_named ps overs = list_all (is_named ps) overs

named_more : (k : ℕ) (ps : List ℕ) (overs : List (List Ball)) → are_named ps overs ≡ true → are_named (k ∷ ps) overs ≡ true
named_more k ps [] e = refl
named_more k ps (over ∷ overs) e = grind (arith, named_more k ps overs)

pub overs_named : (h : History) (i : ℕ) → are_named (filter_map (bowler_in i) (deliveries h)) (since_call h i ∷ innings_overs h i) ≡ true
overs_named [] i = refl
overs_named (Bowl b ∷ h) i =
    grind (
      arith,
      overs_named h i,
      named_more b.bowler (filter_map (bowler_in i) (deliveries h)) (since_call h i ∷ innings_overs h i),
      eq-eqb b.bowler b.bowler refl,
    )
overs_named (x ∷ h) i = grind (arith, overs_named h i)

-- ---- one over

all_alike : (p k : ℕ) (bs : List Ball) → k ≡ p → list_all (bowled_by p) bs ≡ list_all (bowled_by k) bs
all_alike p k bs e = rw e refl

-- p bowled the whole over, exactly if he bowled its newest ball, and its bowler the others
alone_by : (p : ℕ) (b : Ball) (bs : List Ball) → alone p (b ∷ bs) ≡ (b.bowler == p) && list_all (bowled_by b.bowler) bs
alone_by p b bs = grind (arith, eqb-true b.bowler p, all_alike p b.bowler bs)

module _ (test : ℕ → Bool) where
  abbrev pub of_test : Ball → Bool
  of_test b = test b.bowler

  all_tested : (k : ℕ) (bs : List Ball) → test k ≡ true → list_all (bowled_by k) bs ≡ true → list_all of_test bs ≡ true
  all_tested k [] is all = refl
  all_tested k (b ∷ bs) is all = grind (arith, all_tested k bs is, eqb-true b.bowler k)

  module _ (z : Bool) (ps : List ℕ) where
    abbrev own : List Ball → ℕ → ℕ
    own over p = one_if (alone p over && z)

    one_over : (over : List Ball) → is_named ps over ≡ true → one_if (is_full of_test over && z)
        ≡ picked test (own over) (named_once ps) + one_if ((is_several over && list_all of_test over) && z)
    one_over [] named = grind (arith, picked-none test (named_once ps))
    one_over (b ∷ bs) named =
        let k = b.bowler in
        let all = list_all (bowled_by k) bs in
        let each = picked-same test (own (b ∷ bs)) (λ p. if k == p then one_if (all && z) else 0) (λ p. grind (arith, alone_by p b bs)) (named_once ps) in
        grind (
          arith,
          each,
          picked-one test k (one_if (all && z)) ps,
          alone_by k b bs,
          eq-eqb k k refl,
          all_tested k bs,
        )

  -- all overs: whole those that a reader counts, by those of one player, and several those of namesakes
  module _ (z : List Ball → Bool) (whole : List Ball → Bool) (by : ℕ → List Ball → Bool) (several : List Ball → Bool)
      (is_whole : (over : List Ball) → whole over ≡ is_full of_test over && z over)
      (is_by : (p : ℕ) (over : List Ball) → by p over ≡ alone p over && z over)
      (are_several : (over : List Ball) → several over ≡ (is_several over && list_all of_test over) && z over)
      (ps : List ℕ) where
    one_more : (over : List Ball) → is_named ps over ≡ true →
        one_if (whole over) ≡ picked test (λ p. one_if (by p over)) (named_once ps) + one_if (several over)
    one_more over named =
        let each = picked-same test (λ p. one_if (by p over)) (own (z over) ps over) (λ p. ap one_if (is_by p over)) (named_once ps) in
        omega (arith, one_over (z over) ps over named, ap one_if (is_whole over), each, ap one_if (are_several over))

    pub overs_by_names : (overs : List (List Ball)) → are_named ps overs ≡ true →
        count_of whole overs ≡ picked test (λ p. count_of (by p) overs) (named_once ps) + count_of several overs
    overs_by_names [] named = omega (arith, picked-none test (named_once ps))
    overs_by_names (over ∷ overs) named =
        let both = sum_if test (λ p. count_of (by p) overs) (λ p. one_if (by p over)) (λ p. count_of (by p) (over ∷ overs))
        (λ p. grind arith) (named_once ps) in
        grind (arith, both, one_more over, overs_by_names overs)

-- ---- maidens

no_runs : (t : Ball → Bool) (bs : List Ball) → list_all (λ b. t b && (debit_of b == 0)) bs ≡ list_all t bs && (debit bs == 0)
no_runs t [] = refl
no_runs t (b ∷ bs) = grind (arith, nat_tests, no_runs t bs)

pub full_maiden : (t : Ball → Bool) (over : List Ball) → is_full (λ b. t b && (debit_of b == 0)) over ≡ is_full t over && (debit over == 0)
full_maiden t [] = refl
full_maiden t (b ∷ bs) = no_runs t (b ∷ bs)
