use Rattle.std.proofs.Common.{◌≡◌, ◌≤◌, ◌-◌, vec_len, List, ℕ, Option}
use Rattle.std.specs.Io.KnownBytes.{Consumes}
use Rattle.streams.specs.Watched.{failures, stream_of}
use Rattle.streams.proofs.input.read_all.Given as goal

-- the input so far is the bytes that the reader gave
pub record SoFar (before after : Option (List ℕ)) (items : List ℕ) (count : ℕ) : Type 0 where
  pub read : Consumes before after items
  pub bound : count ≤ 16777216

abbrev pub invariant-loop-count : goal.invariant-loop-count
invariant-loop-count g l =
    SoFar (g.R.Feed.remaining (stream_of l.initial.reader)) (g.R.Feed.remaining (stream_of l.reader)) l.input.items (vec_len l.input)
    × (failures l.reader ≡ failures l.initial.reader)

-- how many bytes may still be read, and one more for the end
abbrev pub decreases-loop-count : goal.decreases-loop-count
decreases-loop-count g l = 16777217 - vec_len l.input
