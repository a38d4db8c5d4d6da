-- The room left after texts in a row.
use Rattle.std.proofs.lemmas.Grind.{common_steps}
use Rattle.std.proofs.Common.{arith, ◌≡◌, ℕ, List, [], ◌++◌, length, length-append}
use Rattle.std.specs.Prelude.{nat_le}
use Rattle.score_rows.specs.declared.room.Room.{Room}
use Rattle.score_rows.specs.declared.room.Room.TheVariants.{Left}
use Rattle.cards.specs.Sheet.{Sheet}
use Rattle.score_rows.specs.Fit.{all_columns, behind, fits, is_left}

pub behind_nothing : (room : Room) → behind room [] ≡ room
behind_nothing room = grind (arith, common_steps)

pub behind_both : (room : Room) (ts us : List ℕ) → behind room (ts ++ us) ≡ behind (behind room ts) us
behind_both room ts us = grind (arith, common_steps, length-append)

pub left_behind : (n : ℕ) (ts : List ℕ) → is_left (behind (Left n) ts) ≡ nat_le (length ts) n
left_behind n ts = grind arith

-- two texts fit one after the other just if both together fit
pub fit_both : (s : Sheet) (ts us : List ℕ) (first second : Room) → first ≡ behind (all_columns s) ts → second ≡ behind first us
    → is_left second ≡ fits s (ts ++ us)
fit_both s ts us first second h h2 = grind (arith, common_steps, behind_both, left_behind)
