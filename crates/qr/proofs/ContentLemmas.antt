-- The codewords put so far, and those of the rest of the text.
use Rattle.std.proofs.Common.{◌≡◌, ◌+◌, ◌*◌, ◌/◌, ◌%◌, ◌<◌, ◌≤◌, ℕ, List, [], ◌∷◌, ◌++◌, append_assoc, arith, length, drop, get_or}
use Rattle.std.specs.List.{flat_map}
use Rattle.std.proofs.lemmas.Grind.{common_steps}
use Rattle.std.proofs.lemmas.List.{at_drop_more, at_drop_all}
use Rattle.qr.specs.Content.{halves, joined}

-- the codewords that the rest of a text makes after a byte
abbrev pub rest_codewords : ℕ → List ℕ → List ℕ
rest_codewords before rest = joined (before % 16 ∷ flat_map halves rest ++ 0 ∷ [])

pub one_more : (done text : List ℕ) (before i : ℕ) → i < length text
    → done ++ (before % 16 * 16 + get_or text i 0 / 16) ∷ [] ++ rest_codewords (get_or text i 0) (drop (i + 1) text) ≡ done ++ rest_codewords before (drop i text)
one_more done text before i h = grind (arith, common_steps, append_assoc, at_drop_more)

pub the_last : (done text : List ℕ) (before i : ℕ) → length text ≤ i
    → done ++ (before % 16 * 16) ∷ [] ≡ done ++ rest_codewords before (drop i text)
the_last done text before i h = grind (arith, common_steps, at_drop_all)
