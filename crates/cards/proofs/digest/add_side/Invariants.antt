use Rattle.std.proofs.Common.{◌++◌, ℕ, List}
use Rattle.sha2.specs.Hashers.{Holds256}
use Rattle.cards.specs.Sheet.{player_of}
use Rattle.cards.specs.Digest.{texts_from}
use Rattle.cards.proofs.digest.add_side.Given as goal

-- the names of the players before this index are added
abbrev pub invariant-loop-index : goal.invariant-loop-index
invariant-loop-index l =
    (m : List ℕ) → Holds256 l.initial.hasher m → Holds256 l.hasher (m ++ texts_from (player_of l.sheet l.side) 1 l.index)
