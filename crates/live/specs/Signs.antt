-- What counts as a sign that the other desk is there.
use Rattle.std.specs.Prelude.{◌≡◌, ◌⊎◌, ℕ, ◌-◌, min}
use Rattle.agree_core.specs.declared.{messages.Asker.Asker, messages.DeskId.DeskId, messages.Message.Message, position.Position.Position}
use Rattle.agree_core.specs.Desks.{asker}
use Rattle.agree_core.specs.Positions.{IsFull}
use Rattle.agree_core.specs.Readers.{other}
use Rattle.wire.specs.Layout.{is_at}
use Rattle.live.specs.Paces.{later}

-- the sender of a message
abbrev pub sender_of : Message → Asker
sender_of (Message.Vote v) = asker v.desk
sender_of (Message.Ask q) = q.from

-- a sign of the other desk, at a desk's position: its vote or ask for the same position, or for any if this one is full, since
-- nothing more is said there; a message for an earlier position may be a repeat
abbrev pub IsSign : DeskId → Position → Message → Type 0
IsSign own at m = (sender_of m ≡ asker (other own)) × ((is_at m ≡ at) ⊎ IsFull at)

-- how long a desk itself was held up between two looks at its clock: a turn waits half a second at most
abbrev pub held : ℕ → ℕ → ℕ
held looked now = now - looked - 500

-- the time from which waiting counts: time in which the desk was held up doesn't
abbrev pub counted_from : ℕ → ℕ → ℕ → ℕ
counted_from since looked now = min now (later since (held looked now))
