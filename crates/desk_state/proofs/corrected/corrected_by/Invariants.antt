use Rattle.desk_state.proofs.CorrectedLemmas.{Noting}
use Rattle.desk_state.proofs.corrected.corrected_by.Given as goal

abbrev pub invariant-loop-place : goal.invariant-loop-place
invariant-loop-place g l = Noting (g.B.BookOf.content l.book) l.place l.by.items
