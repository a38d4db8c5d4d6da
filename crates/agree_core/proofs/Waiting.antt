-- No seat and no reader keeps both votes of its position.
use Rattle.std.proofs.Common.{arith}
use Rattle.notation.specs.declared.entry.Entry.{Entry}
use Rattle.agree_core.specs.declared.{messages.Vote.Vote, seat.Heard.Heard, seat.Settled.Settled}
use Rattle.agree_core.specs.Seats.{Casts, Hears, SeatState, SeatWaits}
use Rattle.agree_core.specs.Readers.{Listens, ReaderState, ReaderWaits}

pub casts_wait : (s t : SeatState) (e : Entry) (settled : Settled) → Casts s e settled t → SeatWaits t
casts_wait s t e settled h = grind arith

pub hears_wait : (s t : SeatState) (v : Vote) (heard : Heard) → SeatWaits s → Hears s v heard t → SeatWaits t
hears_wait s t v heard w h = grind arith

pub listens_wait : (r t : ReaderState) (v : Vote) (heard : Heard) → ReaderWaits r → Listens r v heard t → ReaderWaits t
listens_wait r t v heard w h = grind arith
