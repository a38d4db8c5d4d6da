use Rattle.std.specs.Prelude.{string_bytes}
use Rattle.cards.proofs.Slots.{SoFar}
use Rattle.page.specs.Falls.{fall_html}
use Rattle.page.proofs.Growing.{Grows}
use Rattle.page.proofs.fall_list.put_each_fall.Given as goal

abbrev pub invariant-loop-index : goal.invariant-loop-index
invariant-loop-index l =
    SoFar Grows (fall_html l.sheet l.side l.there) l.place-items l.index 0 (string_bytes l.initial.out) (string_bytes l.out)
