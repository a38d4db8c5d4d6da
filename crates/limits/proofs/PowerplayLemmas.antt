-- The powerplay that an over is in, searched one powerplay at a time.
use Rattle.std.proofs.Common.{◌≡◌, ◌<◌, ◌≤◌, ◌+◌, ℕ, List, ◌∷◌, Some, None, if◌then◌else◌, length, drop, get_or, sym, ap, ◌∙◌}
use Rattle.std.proofs.lemmas.List.{drop_all, drop_more}
use Rattle.limits.specs.declared.powerplay.Powerplay.{Powerplay}
use Rattle.limits.specs.Limits.{has_over, powerplay_from}

pub powerplay_next : (over i : ℕ) (ps : List Powerplay) (p : Powerplay) → i < length ps → p ≡ get_or ps i p
    → powerplay_from over (i + 1) (drop i ps) ≡ (if has_over over p then Some (i + 1) else powerplay_from over ((i + 1) + 1) (drop (i + 1) ps))
powerplay_next over i ps p lt is = ap (powerplay_from over (i + 1)) (drop_more ps i p lt ∙ ap (λ q. q ∷ drop (i + 1) ps) (sym is))

pub powerplay_none : (over k i : ℕ) (ps : List Powerplay) → length ps ≤ i → powerplay_from over k (drop i ps) ≡ None
powerplay_none over k i ps end = ap (powerplay_from over k) (drop_all i ps end)
