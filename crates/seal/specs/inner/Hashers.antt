-- What hashers of a key have taken.
use Rattle.std.specs.Prelude.{ℕ, List}
use Rattle.sha2.specs.Hashers.{Holds256}
use Rattle.sha2.specs.declared.Sha256.{Sha256}
use Rattle.seal.specs.Hmac.{key_block, padded_by}

-- one hasher has taken the key's inner block, and the other its outer block
abbrev pub AreOfKey : Sha256 → Sha256 → List ℕ → Type 0
AreOfKey inner outer key =
    Holds256 inner (padded_by 0x36 (key_block key)) × Holds256 outer (padded_by 0x5c (key_block key))
