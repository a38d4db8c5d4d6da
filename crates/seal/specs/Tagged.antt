-- A message with its receipt and all its tags, as bytes: only in a log, since no peer is sent all of them.
use Rattle.std.specs.Prelude.{ℕ, List, ◌++◌}
use Rattle.std.specs.List.{flat_map}
use Rattle.seal.specs.Sealed.{covered}
use Rattle.seal.specs.declared.carrier.TaggedMessage.{TaggedMessage}

abbrev pub bytes_of : TaggedMessage → List ℕ
bytes_of sent = covered sent.message sent.receipt ++ flat_map (λ tag. tag) sent.tags
