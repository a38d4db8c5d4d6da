-- The first blocks of two files, one block after another.
use Rattle.std.proofs.Common.{◌≡◌, ℕ, ◌+◌, ◌*◌, ◌++◌, List, drop, take, ap, sym, ◌∙◌, arith}
use Rattle.std.proofs.Math.Seq.{take-add}
use Rattle.std.proofs.lemmas.List.{drop-take}
use Rattle.setup.specs.Counting.{BeginAlike}

abbrev pub block : ℕ → List ℕ → List ℕ
block count bytes = take 64 (drop (64 * count) bytes)

next : (count : ℕ) → 64 * (count + 1) ≡ 64 * count + 64
next count = omega arith

with_next : (count : ℕ) (bytes : List ℕ) → take (64 * (count + 1)) bytes ≡ take (64 * count) bytes ++ block count bytes
with_next count bytes = ap (λ (n : ℕ). take n bytes) (next count) ∙ take-add (64 * count) 64 bytes

-- if one more block is alike, so are one more of the first blocks
pub alike_more : (count : ℕ) (first second : List ℕ) → BeginAlike count first second → block count first ≡ block count second
    → BeginAlike (count + 1) first second
alike_more count first second same more =
    with_next count first ∙ ((λ i. same i ++ more i) ∙ sym (with_next count second))

last_of : (count : ℕ) (bytes : List ℕ) → drop (64 * count) (take (64 * (count + 1)) bytes) ≡ block count bytes
last_of count bytes = ap (λ (n : ℕ). drop (64 * count) (take n bytes)) (next count) ∙ drop-take (64 * count) 64 bytes

-- if the first blocks are alike, so is the last of them
pub last_alike : (count : ℕ) (first second : List ℕ) → BeginAlike (count + 1) first second → block count first ≡ block count second
last_alike count first second same =
    sym (last_of count first) ∙ (ap (λ (l : List ℕ). drop (64 * count) l) same ∙ last_of count second)
