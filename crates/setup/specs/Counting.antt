-- What two files of one desk's votes have in common, and which of them counts.
use Rattle.std.specs.Prelude.{◌≡◌, ℕ, ◌+◌, ◌*◌, ◌<◌, ◌≤◌, List, length, slice_get, take, Some}
use Rattle.setup.specs.declared.counting.{Counting.Counting, TheConstants.OPEN_GATE}
use Rattle.setup.specs.declared.counting.Counting.TheVariants.{First, Second, Neither}

-- the file has this many whole blocks of 64 bytes: its header, and each slot after it whose gate is open
pub record HasBlocks (bytes : List ℕ) (count : ℕ) : Type 0 where
  pub whole : 64 * count ≤ length bytes
  pub gates : (k : ℕ) → 0 < k → k < count → slice_get bytes (64 * k) ≡ Some OPEN_GATE

-- the first count blocks of both files are alike
abbrev pub BeginAlike : ℕ → List ℕ → List ℕ → Type 0
BeginAlike count first second = take (64 * count) first ≡ take (64 * count) second

-- Which of two files with m and n blocks counts: the one that has all blocks of the other, and lacking more. Neither counts
-- if a block differs that both have: same is the number of blocks before it.
abbrev pub Counts : Counting → ℕ → ℕ → List ℕ → List ℕ → Type 0
Counts (First lacking) m n first second = (n + lacking ≡ m) × BeginAlike n first second
Counts (Second lacking) m n first second = (m + lacking ≡ n) × (0 < lacking) × BeginAlike m first second
Counts (Neither same) m n first second =
    (same < m) × (same < n) × BeginAlike same first second × (BeginAlike (same + 1) first second → ⊥)

-- which of two files counts, with as many blocks as their bytes show
pub record Compares (counting : Counting) (first second : List ℕ) : Type 0 where
  pub m : ℕ
  pub n : ℕ
  pub of_first : HasBlocks first m
  pub of_second : HasBlocks second n
  pub counts : Counts counting m n first second

-- the bytes of the file that counts
abbrev pub counting_bytes : Counting → List ℕ → List ℕ → List ℕ
counting_bytes (First lacking) first second = first
counting_bytes (Second lacking) first second = second
counting_bytes (Neither same) first second = first
