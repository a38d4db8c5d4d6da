-- What is shown of a board is told whom the board heard, and when.
use Rattle.std.specs.Prelude.{◌≡◌, ◌⊎◌, ℕ, List, [], ◌∷◌, ◌++◌, Result, Ok, Err}
use Rattle.agree_core.specs.declared.messages.Message.{Message}
use Rattle.links.specs.Passed.{Passed, Came, Opened, Sent}
use Rattle.wire.specs.Layout.{Says}
use Rattle.wire.specs.declared.fault.WireFault.{WireFault}

-- a message that a board heard, and what its clock showed then
pub record Hearing : Type 0 where
  pub message : Message
  pub at : ℕ

abbrev pub hearing_of : Message → ℕ → Hearing
hearing_of message at = record { message = message; at = at }

-- what is heard by a datagram that reads so, at this time
abbrev pub heard_at : Result Message WireFault → ℕ → List Hearing
heard_at (Ok message) now = hearing_of message now ∷ []
heard_at (Err fault) now = []

-- the bytes say no message of this match
abbrev pub SaysNothing : ℕ → List ℕ → Type 0
SaysNothing game bytes = (m : Message) → Says game bytes m → ⊥

-- Of what passed at a board's link, while its clock showed these times, exactly this was heard: the message that each datagram
-- said that came, if it said one, in the order in which they came; each at a time that was shown after that of the one before.
abbrev pub AreHeard : ℕ → List Passed → List ℕ → List Hearing → Type 0
AreHeard game [] times heard = heard ≡ []
AreHeard game (Opened station seals is_of_pairs ∷ passed) times heard = AreHeard game passed times heard
AreHeard game (Sent to bytes ∷ passed) times heard = AreHeard game passed times heard
AreHeard game (Came bytes ∷ passed) times heard =
    (SaysNothing game bytes × AreHeard game passed times heard)
    ⊎ ((h : Hearing) × (later : List Hearing) × (before after : List ℕ) × (heard ≡ h ∷ later) × (times ≡ before ++ h.at ∷ after)
    × Says game bytes h.message × AreHeard game passed after later)

-- From one moment to another, what is shown of a board of this match was told exactly what was heard of what passed at its link
-- in between.
pub record Hears (game : ℕ) (before after : List Passed) (read reads : List ℕ) (told tells : List Hearing) : Type 0 where
  pub passed : List Passed
  pub times : List ℕ
  pub heard : List Hearing
  pub link : after ≡ before ++ passed
  pub clock : reads ≡ read ++ times
  pub display : tells ≡ told ++ heard
  pub are : AreHeard game passed times heard
