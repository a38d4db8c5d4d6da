use Rattle.desk_state.specs.Book.{value_in}
use Rattle.desk_state.specs.inner.Before.{IsWithin}
use Rattle.desk_state.proofs.ItemLemmas.{Putting}
use Rattle.desk_state.proofs.items.put_items.Given as goal

abbrev pub invariant-loop-index : goal.invariant-loop-index
invariant-loop-index g l =
    Putting (value_in (g.B.BookOf.content l.book)) l.items l.from l.index l.before l.initial.out l.out × IsWithin l.index l.before
