use Rattle.std.proofs.Common.{◌≡◌, ℕ, ◌-◌, ◌==◌, false, ◌∙◌, ne_eqb}
use Rattle.ball_laws.specs.History.{History}
use Rattle.match_laws.specs.History.{begun}
use Rattle.cards.specs.Sheet.{Sheet}
use Rattle.screen.specs.Both.{both_cards, cards_of}
use Rattle.screen.proofs.both.print_cards.Goals as goal

-- an innings has begun
some_begun : (s : Sheet) (h : History) (b : ℕ) → b ≡ begun h → (b ≡ 0 → ⊥) → both_cards s h ≡ cards_of s h (b - 1)
some_begun s h b is some =
    let none : (begun h == 0) ≡ false = ne_eqb (begun h) 0 (λ e. some (is ∙ e)) in
    rw (is, none)

pub returns-clause-text : goal.returns-clause-text
returns-clause-text g c =
    let is = c.begun-begun.ensures.value _ _ c.score.ensures.score in
    rw (some_begun c.args.sheet.now _ c.begun-begun.result is c.if-begun-eq0.false) c.print_innings.ensures.text
