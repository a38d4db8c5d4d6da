-- The texts of a post, and what its tag is made from.
use Rattle.std.specs.Prelude.{ℕ, ◌==◌, Bool, List, ◌++◌, codes, decimal}
use Rattle.agree_core.specs.declared.position.Position.{Position}
use Rattle.seal.specs.Hmac.{hmac}

abbrev pub is_point : ℕ → Bool
is_point byte = byte == 46

-- a position: its place, a point and its round
abbrev pub place_text : Position → List ℕ
place_text at = decimal at.place ++ codes "." ++ decimal at.round

-- what a tag is made from: the nonce, the position and the line
abbrev pub tagged : ℕ → Position → List ℕ → List ℕ
tagged nonce at line = decimal nonce ++ codes " " ++ place_text at ++ codes " " ++ line

abbrev pub tag_of : List ℕ → ℕ → Position → List ℕ → List ℕ
tag_of secret nonce at line = hmac secret (tagged nonce at line)

-- what the tag of a pass, with which a page asks for events, is made from: no tag of a line is made from that
abbrev pub passed : ℕ → List ℕ
passed nonce = decimal nonce ++ codes " watch"

abbrev pub pass_tag : List ℕ → ℕ → List ℕ
pass_tag secret nonce = hmac secret (passed nonce)
