-- The waiting lines, and those that posts add.
use Rattle.std.specs.Prelude.{◌≡◌, ℕ, List, [], ◌∷◌, ◌++◌, Option, None, Some}
use Rattle.agree_core.specs.declared.position.Position.{Position}
use Rattle.posts.specs.declared.posted.PostedLine.{PostedLine}
use Rattle.viewers.specs.declared.inbox.Inbox.{Inbox}

-- this line waits after those before it: it was posted with this secret, to a desk at this position
pub record Adds (secret : List ℕ) (at : Position) (line : List ℕ) (before after : List (Option PostedLine)) : Type 0 where
  pub posted : PostedLine
  pub added : after ≡ before ++ Some posted ∷ []
  pub text : posted.text.items ≡ line
  pub by : posted.secret.value ≡ secret
  pub stands : posted.at ≡ at

-- one more line waits, posted with the page's secret for the desk's position
pub record AddsOne (before after : Inbox) : Type 0 where
  pub line : List ℕ
  pub adds : Adds before.posts.secret before.at line before.lines.items after.lines.items

abbrev pub TypesOne : Option Inbox → Option Inbox → Type 0
TypesOne (Some before) (Some after) = AddsOne before after
TypesOne (Some before) None = ⊥
TypesOne None after = ⊥

-- the same lines wait
abbrev pub TypesNone : Option Inbox → Option Inbox → Type 0
TypesNone (Some before) (Some after) = after.lines ≡ before.lines
TypesNone (Some before) None = ⊥
TypesNone None after = after ≡ None
