use Rattle.wire.proofs.MessageLemmas.{short_body}
use Rattle.wire.proofs.reading.entry_in.Goals as goal

pub returns-then-bytes-lt-BODY_END-clause-only : goal.returns-then-bytes-lt-BODY_END-clause-only
returns-then-bytes-lt-BODY_END-clause-only c = λ e is same. absurd (short_body c.args.bytes.now e c.if-bytes-lt-BODY_END.true same)
