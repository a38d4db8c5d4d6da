-- A number of each delivery: its sum over the items of an innings is its sum over the deliveries of the Laws.
use Rattle.std.proofs.Common.{◌≡◌, ℕ, ◌+◌, ◌==◌, cond, if◌then◌else◌, List, [], ◌∷◌, None, Option, refl, arith}
use Rattle.std.proofs.lemmas.Bool.Decides.{nat_tests}
use Rattle.notation.specs.declared.entry.{Ball.Ball, Leave.Leave, Plain.Plain}
use Rattle.notation.specs.declared.entry.Plain.TheVariants.{Ball as Bowl, Gone}
use Rattle.ball_laws.specs.History.{History}
use Rattle.ball_laws.specs.Laws.{state_after}
use Rattle.ball_laws.specs.Sums.{tally}
use Rattle.match_laws.specs.History.{Delivery, begun, deliveries, is_of}
use Rattle.match_laws.specs.Refusals.{refusal}
use Rattle.match_laws.specs.Result.{current}
use Rattle.match_laws.proofs.LegalLemmas.{ball_open, current-open, gone_open}
use Rattle.corrections.specs.declared.placed.Placed.{Placed}
use Rattle.corrections.specs.inner.Scoring.{history_after}
use Rattle.corrections.specs.Refusal.{first_refused}
use Rattle.corrections.proofs.ScoringLemmas.{first_refused-cons}
use Rattle.archive_deliveries.specs.declared.notes.Noted.{Noted}
use Rattle.archive_deliveries.specs.Notes.{items_in, notes}

-- a delivery or a departure belongs to the current innings
pub ball_here : (n : ℕ) (h : History) (b : Ball) (i : ℕ) → refusal n h (Bowl b) ≡ None → (begun h == i + 1) ≡ (current h == i)
ball_here n h b i e = grind (arith, nat_tests, current-open h (ball_open n h b e))

pub gone_here : (n : ℕ) (h : History) (way : Leave) (p i : ℕ) → refusal n h (Gone way p) ≡ None → (begun h == i + 1) ≡ (current h == i)
gone_here n h way p i e = grind (arith, nat_tests, current-open h (gone_open n h way p e))

module _ (w : Option ℕ → Ball → ℕ) where
  -- the number of an item: w of a delivery, and 0 of any other item
  abbrev pub weight : Plain → Option ℕ → ℕ
  weight (Bowl b) striker = w striker b
  weight _ striker = 0

  abbrev pub noted_weight : Noted → ℕ
  noted_weight x = weight x.item (x.ends).striker

  abbrev pub delivery_weight : ℕ → Delivery → ℕ
  delivery_weight i d = if is_of i d then w d.striker d.ball else 0

  abbrev pub weights_in : ℕ → List Noted → ℕ
  weights_in i xs = tally (λ x. if x.innings == i then noted_weight x else 0) xs

  pub in_innings : (i : ℕ) (xs : List Noted) → tally noted_weight (items_in i xs) ≡ weights_in i xs
  in_innings i [] = refl
  in_innings i (x ∷ xs) = grind (arith, in_innings i xs)

  weight_one : (n : ℕ) (h : History) (x : Plain) (i : ℕ) → refusal n h x ≡ None
      → cond (current h == i) (weight x ((state_after h).ends).striker) 0 + tally (delivery_weight i) (deliveries h) ≡ tally (delivery_weight i) (deliveries (x ∷ h))
  weight_one n h x i e = grind (arith, ball_here)

  pub weights_so_far : (n : ℕ) (h : History) (xs : List Placed) (i : ℕ) → first_refused n h xs ≡ None
      → weights_in i (notes h xs) + tally (delivery_weight i) (deliveries h) ≡ tally (delivery_weight i) (deliveries (history_after h xs))
  weights_so_far n h [] i e = omega arith
  weights_so_far n h (x ∷ xs) i e =
      let both = first_refused-cons n h x xs e in
      let rest = weights_so_far n (x.item ∷ h) xs i both.1 in
      let one = weight_one n h x.item i both.0 in
      omega (arith, rest, one)
