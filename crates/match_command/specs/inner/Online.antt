-- What the datagrams of a match say, and what a board makes of them.
use Rattle.std.specs.Prelude.{◌≡◌, ℕ, List, ◌++◌, All, IfSome, Some, length, slice_get, take}
use Rattle.notation.specs.declared.entry.Entry.{Entry}
use Rattle.agree_core.specs.declared.messages.Message.{Message}
use Rattle.agree_core.specs.declared.messages.Message.TheVariants.{Vote, Ask}
use Rattle.agree_core.specs.Boards.{BoardState}
use Rattle.wire.specs.Layout.{Says}
use Rattle.links.specs.Passed.{Passed, Sent}
use Rattle.match_command.specs.MatchRun.{GivesOnlySent}

-- a vote is for one of these entries, in the first round of its place
abbrev pub SpeaksOf : List Entry → Message → Type 0
SpeaksOf entries (Vote v) = (v.round ≡ 0) × (slice_get entries v.place ≡ Some v.entry)
SpeaksOf entries (Ask q) = Unit {0}

-- a sent datagram is such a message of the match
abbrev pub IsSaid : ℕ → List Entry → Passed → Type 0
IsSaid game entries (Sent to bytes) = (m : Message) × Says game bytes m × SpeaksOf entries m
IsSaid game entries passed = Unit {0}

-- a board's book is the first of these entries, and each vote that it has noted is for the next one
pub record Follows (entries : List Entry) (k : BoardState) : Type 0 where
  pub book : k.book ≡ take (length k.book) entries
  pub position : k.reader.position ≡ record { place = length k.book; round = 0 }
  pub a : IfSome k.reader.a (λ e. slice_get entries (length k.book) ≡ Some e)
  pub b : IfSome k.reader.b (λ e. slice_get entries (length k.book) ≡ Some e)

-- since the start the stations have sent only such messages, and the board follows if the link gave only what was sent
pub record IsOnline
    (game : ℕ) (start : List Passed) (entries : List Entry) (log : List Passed) (k : BoardState) : Type 0 where
  pub passed : List Passed
  pub since : log ≡ start ++ passed
  pub said : All (IsSaid game entries) passed
  pub follows : GivesOnlySent passed → Follows entries k

-- what passed between these two logs leaves the stations online
abbrev pub StaysOnline : ℕ → List Entry → List Passed → List Passed → Type 0
StaysOnline game entries before after =
    (start : List Passed) (k : BoardState) → IsOnline game start entries before k → IsOnline game start entries after k
