-- What only the holder of the secret of a desk's page reads.
use Rattle.std.specs.Prelude.{◌≡◌, ◌++◌, ℕ, List, codes, Option, Some}
use Rattle.hex.specs.Hex.{encode_lower}
use Rattle.posts.specs.Veils.{frame}
use Rattle.viewers.specs.declared.{inbox.Inbox.Inbox, own.{Own.Own, Veiled.Veiled}}

-- a line with its whole state, one with the digest of its book's text in hex digits, and one with its newest rows
abbrev pub told_alone : Own → List ℕ
told_alone own = own.state.items ++ encode_lower own.digest ++ codes "\n" ++ own.rows.items

-- what a desk tells only its scorer, encrypted with the secret of its page under the next number, in hex digits, as one line
pub record IsVeiled (inbox : Option Inbox) (own : Own) (veiled : Veiled) : Type 0 where
  pub there : Inbox
  pub is_there : inbox ≡ Some there
  pub number : veiled.number ≡ there.posts.number
  pub text : veiled.text.items ≡ encode_lower (frame there.posts.secret there.posts.number (told_alone own)) ++ codes "\n"
