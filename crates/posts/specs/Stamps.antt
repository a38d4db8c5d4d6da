-- A stamp by the texts of its three fields, and a pass by the texts of its two.
use Rattle.std.specs.Prelude.{◌≡◌, ℕ, List, Ok, decimal}
use Rattle.hex.specs.Hex.{decode_sized}
use Rattle.posts.specs.Texts.{place_text}
use Rattle.posts.specs.declared.stamp.{Pass.Pass, Stamp.Stamp}

pub record IsStamp (at nonce tag : List ℕ) (s : Stamp) : Type 0 where
  pub place : at ≡ place_text s.at
  pub number : nonce ≡ decimal s.nonce
  pub digest : decode_sized tag 32 ≡ Ok s.tag

pub record IsPass (nonce tag : List ℕ) (p : Pass) : Type 0 where
  pub number : nonce ≡ decimal p.nonce
  pub digest : decode_sized tag 32 ≡ Ok p.tag
