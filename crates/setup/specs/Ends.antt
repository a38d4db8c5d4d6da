-- How a run over readers and a writer ends.
use Rattle.std.specs.Prelude.{◌≡◌, ◌≢◌, ◌<◌, ◌⊎◌, ℕ, List, length, Option, IfSome, Result, Err, IfErr, OnOk}
use Rattle.streams.specs.declared.{limit.TheConstants.LONGEST_INPUT, watched.Watched.Watched}
use Rattle.streams.specs.Calls.{Call}
use Rattle.streams.specs.Watched.{IsHandedOn, MeetsFailure, failures, stream_of}

-- a read fault comes only if a read failed, or if there is more input than is read
abbrev pub EndsReading :
    {S T E : Type 0} → (S → Option (List ℕ)) → E → Result T E → Watched S → Watched S → Type 0
EndsReading remaining fault result old new =
    result ≡ Err fault → MeetsFailure old new ⊎ IfSome (remaining (stream_of old)) (λ input. LONGEST_INPUT < length input)

-- how writing ends, with fault as the fault of a failed write
pub record EndsWriting
    {S T E : Type 0} (calls : S → Option (List Call)) (fault : E) (result : Result T E) (old new : Watched S) : Type 0 where
  -- the fault comes only if a write failed
  pub write : result ≡ Err fault → MeetsFailure old new
  -- with Ok no write failed, and all that was written was handed on
  pub sound : OnOk result (failures new ≡ failures old)
  pub handed_on : OnOk result (IsHandedOn calls new)
  -- with any other fault nothing was written
  pub unwritten : IfErr result (λ why. why ≢ fault → new ≡ old)
