use Rattle.std.proofs.Common.{◌≡◌, ◌≤◌, drop}
use Rattle.typing.specs.Drafts.{last_start, word_start}
use Rattle.typing.proofs.editor.word_start.Given as goal

-- the rest of the bytes gives the same word start as all of them
abbrev pub invariant-loop-index : goal.invariant-loop-index
invariant-loop-index l =
    (l.start ≤ l.index) × (last_start l.start l.index l.is_behind_blank (drop l.index l.text) ≡ word_start l.text)
