use Rattle.std.proofs.Common.{◌≡◌, ◌≢◌, ◌/◌, ◌%◌, length, take, drop}
use Rattle.posts.specs.Veils.{block, turned_from}
use Rattle.posts.proofs.veil.turn.Given as goal

-- the bytes so far are XORed, the others are as they were, and the pad is the block of the byte before
abbrev pub invariant-loop-i : goal.invariant-loop-i
invariant-loop-i l =
    (length l.text ≡ length l.initial.text)
    × (take l.i l.text ≡ take l.i (turned_from l.key l.seed.items 0 l.initial.text))
    × (drop l.i l.text ≡ drop l.i l.initial.text)
    × (l.i % 32 ≢ 0 → l.pad ≡ block l.key l.seed.items (l.i / 32))
