use Rattle.std.proofs.Common.{arith, ◌≡◌, ℕ, List, [], ◌∷◌, ◌⊎◌}
use Rattle.shorthand.specs.declared.names.Among.TheVariants.{Anyone}
use Rattle.shorthand.specs.declared.names.Fit.TheVariants.{LastWord, Beginning}
use Rattle.shorthand.specs.declared.names.Found.TheVariants.{One}
use Rattle.shorthand.specs.Names.{fitting, found_in, one_or_else}
use Rattle.shorthand.proofs.laws.names_mean_one.Goals as goal

of_either : (ms ns : List ℕ) (n : ℕ) → one_or_else (found_in ms) (found_in ns) ≡ One n → (ms ≡ n ∷ []) ⊎ (ns ≡ n ∷ [])
of_either ms ns n h = grind arith

pub returns : goal.returns
returns c = λ team name n h. of_either (fitting Anyone LastWord team name) (fitting Anyone Beginning team name) n h
