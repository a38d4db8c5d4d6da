-- A line that a post typed at a desk.
use Rattle.std.specs.Prelude.{◌≡◌, ℕ, true, false, List}
use Rattle.agree_core.specs.declared.position.Position.{Position}
use Rattle.screen.specs.Words.{is_end}
use Rattle.posts.specs.Posts.{is_line, is_out}
use Rattle.posts.specs.Texts.{tag_of}
use Rattle.posts.specs.declared.stamp.Stamp.{Stamp}

-- Typed with this secret and one of these nonces, each good once, at the desk's position: its tag is made from them and from
-- the line, which doesn't end the desk.
pub record WasPosted (secret out : List ℕ) (stamp : Stamp) (at : Position) (line : List ℕ) : Type 0 where
  pub was_out : is_out out stamp.nonce ≡ true
  pub tag : stamp.tag ≡ tag_of secret stamp.nonce stamp.at line
  pub place : stamp.at ≡ at
  pub is_it : is_line line ≡ true
  pub ends_no_desk : is_end line ≡ false
