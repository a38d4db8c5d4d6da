-- The calls on a stream: what was asked, and how it was answered.
use Rattle.std.specs.Prelude.{ℕ, Bool, true, false, List, ◌∷◌, Option, Some, None, option_map, Result, OnErr, OnOk, ◌≡◌}

-- what a stream is asked to do: read at most this many bytes; write a text, given by its bytes if they are known;
-- flush all that was written
pub data Asked : Type 0 where
  ReadUpTo : ℕ → Asked
  WriteText : Option (List ℕ) → Asked
  Flush : Asked

-- a call that succeeded, or one that failed
pub data Call : Type 0 where
  Done : Asked → Call
  Failed : Asked → Call

-- the stream's calls, if known, are this call followed by the old ones
abbrev pub Adds : Option (List Call) → Option (List Call) → Call → Type 0
Adds old new call = new ≡ option_map (λ before. call ∷ before) old

-- the stream got one more call, which is done or failed as the result says
abbrev pub Answers : {T E : Type 0} → Result T E → Asked → Option (List Call) → Option (List Call) → Type 0
Answers result asked old new = OnOk result (Adds old new (Done asked)) × OnErr result (Adds old new (Failed asked))

-- whether the last call, if the calls are known, was a flush that succeeded
abbrev pub is_handed_on : Option (List Call) → Bool
is_handed_on None = true
is_handed_on (Some (Done Flush ∷ before)) = true
is_handed_on calls = false
