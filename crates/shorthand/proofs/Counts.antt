-- How many players a text fits.
use Rattle.std.proofs.Common.{◌≡◌, ℕ, ◌≤◌, ◌<◌, List, [], ◌∷◌, get_or, refl, arith}
use Rattle.std.proofs.lemmas.List.Elements.{All-from_recursion, All-get_or}
use Rattle.ball_laws.specs.Over.{numbers}
use Rattle.shorthand.specs.declared.names.Found.{Found}
use Rattle.shorthand.specs.declared.names.Found.TheVariants.{NoOne, Several}
use Rattle.shorthand.specs.Names.{found_in}
use Rattle.shorthand.specs.inner.Writing.{and_one}

abbrev pub with_all : Found → List ℕ → Found
with_all found [] = found
with_all found (n ∷ ns) = with_all (and_one found n) ns

several : (ns : List ℕ) → with_all Several ns ≡ Several
several [] = refl
several (n ∷ ns) = several ns

pub with_all-none : (ns : List ℕ) → with_all NoOne ns ≡ found_in ns
with_all-none ns = grind (arith, several)

abbrev InRange : ℕ → Type 0
InRange n = (1 ≤ n) × (n ≤ 11)

-- a player's number
pub number_in_range : (k : ℕ) → k < 11 → (1 ≤ get_or numbers k 0) × (get_or numbers k 0 ≤ 11)
number_in_range k lt = All-get_or InRange numbers k 0 lt (All-from_recursion InRange numbers (grind arith))
