-- What a station may be given.
use Rattle.std.specs.Prelude.{◌≡◌, ◌⊎◌, ℕ, None, Some, List, slice_get}
use Rattle.agree_core.specs.declared.messages.{Ask.Ask, Message.Message}

-- anyone may make up an ask: a desk answers it with its own votes, whoever asks
abbrev pub IsAsk : Message → Type 0
IsAsk m = (q : Ask) × (m ≡ Message.Ask q)

-- The station is given the sent message of this number, or any ask if no message has this number.
abbrev pub IsGiven : List Message → ℕ → Message → Type 0
IsGiven sent n m = (slice_get sent n ≡ Some m) ⊎ ((slice_get sent n ≡ None) × IsAsk m)
