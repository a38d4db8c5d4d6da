use Rattle.std.proofs.Common.{arith, codes}
use Rattle.std.proofs.lemmas.List.{append_cancel_left}
use Rattle.std.proofs.lemmas.Slice.Eq.{bytes_eq-Decides}
use Rattle.export.proofs.laws.exports_name_two_sides.Goals as goal

-- equal names are told apart by a mark, and other names differ anyway
pub returns : goal.returns
returns c s e =
    grind (
      arith,
      append_cancel_left s.home.name (codes " (home)") (codes " (away)"),
      bytes_eq-Decides s.home.name s.away.name,
    )
