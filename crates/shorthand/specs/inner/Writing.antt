-- A line while it is written, and the players found so far.
use Rattle.std.specs.Prelude.{ℕ, List, Option, Some, None, Result, Ok, Err}
use Rattle.shorthand.specs.declared.{unclear.Unclear.Unclear, names.Found.Found}
use Rattle.shorthand.specs.declared.names.Found.TheVariants.{NoOne, One, Several}
use Rattle.shorthand.specs.Lines.{Reason, reason_of}

-- a text, unless there is a reason against it
abbrev pub text_or_reason : List ℕ → Option Unclear → Result (List ℕ) Reason
text_or_reason text None = Ok text
text_or_reason text (Some unclear) = Err (reason_of unclear)

-- the players found, with one more
abbrev pub and_one : Found → ℕ → Found
and_one NoOne n = One n
and_one (One m) n = Several
and_one Several n = Several
