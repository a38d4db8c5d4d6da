-- What a log of sealed datagrams records.
use Rattle.std.specs.Prelude.{List, [], ◌∷◌, ◌++◌, take}
use Rattle.links.specs.Passed.{Passed, Sent, Came}
use Rattle.seal.specs.Tagged.{bytes_of}
use Rattle.seal.specs.declared.carrier.CarriedLog.{CarriedLog}
use Rattle.seal.specs.declared.carrier.CarriedLog.TheVariants as carried

abbrev pub carried_of : CarriedLog → List Passed
carried_of carried.Empty = []
carried_of (carried.Sent' marker before to message) = carried_of before ++ Sent to.value (bytes_of message.value) ∷ []
carried_of (carried.Came' marker before buffer count) = carried_of before ++ Came (take count.value buffer.value) ∷ []
