-- What a reader takes from a delivery.
use Rattle.std.proofs.Common.{◌≡◌, ℕ, ◌+◌, ◌≤◌, ◌==◌, ◌<◌, ◌^◌, ◌&&◌, not, false, List, [], ◌∷◌, codes, refl, arith, eqb-true, bytes_eq}
use Rattle.std.proofs.lemmas.Fmt.{digits_value-decimal}
use Rattle.notation.specs.declared.entry.{Side.Side, Ball.Ball}
use Rattle.notation.proofs.Numbers.{own}
use Rattle.ball_laws.specs.declared.{ends.Ends.Ends}
use Rattle.ball_laws.specs.Over.{debit_of, is_wide_or_no_ball}
use Rattle.ball_laws.specs.Runs.{split_of_ball}
use Rattle.ball_laws.specs.Sums.{count_of, one_if}
use Rattle.match_laws.specs.Figures.{batted_of, byes_of, credit_of, credited, faced_of, legs_of, noballs_of, wides_of}
use Rattle.match_laws.proofs.Bounds.{ball-small}
use Rattle.cards.specs.Sheet.{Sheet, player_of}
use Rattle.json.specs.Json.{Json}
use Rattle.json_fields.specs.Values.{number_value}
use Rattle.archive_deliveries.specs.declared.notes.Noted.{Noted}
use Rattle.archive_deliveries.specs.Wickets.{is_gone}
use Rattle.archive_deliveries.specs.Deliveries.{delivery_of, extra_runs, is_run}
use Rattle.export.specs.Laws.{at, is_text}
use Rattle.export.specs.Readers.{bat_runs, boundary_in, bowled_in, byes_in, credited_in, debited_in}
use Rattle.export.specs.Readers.{faced_in, is_credited, legs_in, noballs_in, number_in, penalty_in}
use Rattle.export.specs.Readers.{wides_in}
use Rattle.export.proofs.WicketLemmas.{delivered}
use Rattle.export.proofs.LineLemmas.{takes}

number_again : (n : ℕ) → n ≤ 25 → number_in (number_value n) ≡ n
number_again n small = digits_value-decimal own n (omega (arith, small))

-- ---- a delivery

module _ (s : Sheet) (side : Side) (penalty : ℕ) (early late : List Noted) (ends : Ends) (b : Ball) where
  abbrev delivery : Json
  delivery = delivery_of s side penalty early ends b late

  pub batter_read : (name : List ℕ) → is_text name (at (codes "batter") delivery) ≡ takes (λ p. bytes_eq name (player_of s side p)) ends.striker
  batter_read name = grind arith

  pub penalty_read : penalty < 2 ^ 64 → penalty_in delivery ≡ penalty
  penalty_read small =
      let again = digits_value-decimal own penalty small in
      grind (arith, again, eqb-true penalty 0, eqb-true (extra_runs (split_of_ball b) + penalty) 0)

  module _ (low : b.ran ≤ 20) where
    pub bat_read : bat_runs delivery ≡ batted_of b
    bat_read = number_again (batted_of b) (ball-small b low).striker

    pub wides_read : wides_in delivery ≡ wides_of b
    wides_read = grind (arith, number_again (wides_of b) (ball-small b low).wides)

    pub noballs_read : noballs_in delivery ≡ noballs_of b
    noballs_read =
        let x = split_of_ball b in
        let again = number_again x.noballs (ball-small b low).noballs in
        grind (arith, again, eqb-true x.noballs 0, eqb-true (extra_runs x + penalty) 0)

    pub byes_read : byes_in delivery ≡ byes_of b
    byes_read =
        let x = split_of_ball b in
        let again = number_again x.byes (ball-small b low).byes in
        grind (arith, again, eqb-true x.byes 0, eqb-true (extra_runs x + penalty) 0)

    pub legs_read : legs_in delivery ≡ legs_of b
    legs_read =
        let x = split_of_ball b in
        let again = number_again x.legs (ball-small b low).legs in
        grind (arith, again, eqb-true x.legs 0, eqb-true (extra_runs x + penalty) 0)

    pub faced_read : faced_in delivery ≡ faced_of b
    faced_read = rw wides_read (grind arith)

    pub bowled_read : bowled_in delivery ≡ one_if (not (is_wide_or_no_ball b.kind))
    bowled_read = rw (wides_read, noballs_read) (grind arith)

    pub debited_read : debited_in delivery ≡ debit_of b
    debited_read = rw (bat_read, wides_read, noballs_read) (grind arith)

pub boundary_read : (n : ℕ) (s : Sheet) (side : Side) (penalty : ℕ) (early late : List Noted) (ends : Ends) (b : Ball) → b.ran ≤ 20 →
    boundary_in n (delivery_of s side penalty early ends b late) ≡ one_if ((batted_of b == n) && not (is_run b))
boundary_read n s side penalty early late ends b low =
    rw (bat_read s side penalty early late ends b low) (grind arith)

-- ---- wickets

none_went : (xs : List Noted) → count_of (λ x. is_gone x.item && false) xs ≡ 0
none_went [] = refl
none_went (x ∷ xs) = grind (arith, none_went xs)

pub credited_read : (s : Sheet) (side : Side) (penalty : ℕ) (early late : List Noted) (ends : Ends) (b : Ball) →
    credited_in (delivery_of s side penalty early ends b late) ≡ credited b
credited_read s side penalty early late ends b =
    let all = delivered is_credited s side (λ p. false) credit_of (λ p. grind arith)
    (λ ends bowler out. grind arith) (λ out none. grind arith) penalty early late ends b in
    grind (arith, all, none_went early, none_went late)
