-- Printable bytes are ASCII.
use Rattle.std.proofs.Common.{◌≡◌, ◌<◌, ℕ, zero, suc, nat_le, List, [], ◌∷◌, true, get_or, arith, lit<}
use Rattle.std.specs.List.{list_all}
use Rattle.std.specs.Str.{IsAscii}
use Rattle.std.proofs.lemmas.Bool.{and_parts, leb-true}
use Rattle.cards.specs.Sheet.{is_printable}

pub printable_is_ascii : (line : List ℕ) → list_all is_printable line ≡ true → IsAscii line
printable_is_ascii [] h = λ i. lit< tt
printable_is_ascii (b ∷ bs) h =
    let p = and_parts (is_printable b) (list_all is_printable bs) h in
    let small : b < 128 = omega (arith, leb-true b 126 (and_parts (nat_le 32 b) (nat_le b 126) p.0).1) in
    let at : (i : ℕ) → get_or (b ∷ bs) i 0 < 128 = λ i. elim i as (λ j. get_or (b ∷ bs) j 0 < 128) [ zero ↦ small | suc j ↦ printable_is_ascii bs p.1 j ] in at
