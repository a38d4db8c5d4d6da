use Rattle.std.proofs.Common.{◌≡◌, ◌==◌, length, Option, Some, None, not, Bor, List, ℕ, Bool, arith}
use Rattle.std.specs.Option.{is_some}
use Rattle.notation.specs.inner.Cursor.{tokens_left}
use Rattle.notation.proofs.Splits.{some_token}
use Rattle.notation.proofs.cursor.Cursor.is_empty.Goals as goal

empty : (left : Option (Bor (List ℕ))) (b : Bool) → is_some left ≡ not b → b ≡ (length (tokens_left left) == 0)
empty None b e = grind arith
empty (Some left) b e = grind (arith, some_token left.now)

pub returns : goal.returns
returns c = rw (← c.self.view_is) (empty c.self.inside.left _ c.is_none.ensures)
