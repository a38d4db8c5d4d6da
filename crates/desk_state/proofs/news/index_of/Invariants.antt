use Rattle.std.proofs.Common.{◌≡◌, ◌+◌, drop}
use Rattle.desk_state.specs.Book.{index_of}
use Rattle.desk_state.proofs.news.index_of.Given as goal

abbrev pub invariant-loop-index : goal.invariant-loop-index
invariant-loop-index l = index_of l.place l.items ≡ l.index + index_of l.place (drop l.index l.items)
