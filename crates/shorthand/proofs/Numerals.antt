-- The digits of the numbers of players and substitutes.
use Rattle.std.proofs.Common.{◌≡◌, decimal}
use Rattle.std.specs.Prelude.{codes}
use Rattle.std.specs.Fmt.{digits}

pub to_twelve : (decimal 0 ≡ codes "0") × (decimal 1 ≡ codes "1") × (decimal 2 ≡ codes "2") × (decimal 3 ≡ codes "3")
    × (decimal 4 ≡ codes "4") × (decimal 5 ≡ codes "5") × (decimal 6 ≡ codes "6") × (decimal 7 ≡ codes "7")
    × (decimal 8 ≡ codes "8") × (decimal 9 ≡ codes "9") × (decimal 10 ≡ codes "10") × (decimal 11 ≡ codes "11")
    × (decimal 12 ≡ codes "12")
unfolding digits
to_twelve = assumption
