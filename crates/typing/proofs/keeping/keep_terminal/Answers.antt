use Rattle.std.proofs.Common.{sym, ◌∙◌}
use Rattle.streams.proofs.Appending.{appends_none}
use Rattle.typing.specs.Courses.{Pressed, Rows}
use Rattle.typing.proofs.KeepingLemmas.{goes_on}
use Rattle.typing.proofs.keeping.keep_terminal.Goals as goal
use Rattle.typing.proofs.keeping.keep_terminal.Goals.{in-Nothing, in-Key+in_ok-press-in-Key, in-Rows+in_ok-tell-in-Rows}

pub loop-preserved : goal.loop-preserved
loop-preserved g c = elim c.match-next.branch [
  | in-Nothing w ↦ rw (w.lines-is, w.screen-is, w.kept-is, w.in-Nothing.ensures) c.loop.invariant
  | in-Key+in_ok-press-in-Key w ↦
      let by = w.in_ok-press-in-Key.ensures in
      rw (w.lines-is, w.screen-is, w.kept-is)
      (goes_on _ _ _ (Pressed w.in-Key.byte) _ _ _ _ _ _ _ _ _ _ c.loop.invariant w.in-Key.ensures by.standing by.handed by.shown)
  | in-Rows+in_ok-tell-in-Rows w ↦
      let by = w.in_ok-tell-in-Rows.ensures in
      rw (w.lines-is, w.screen-is, w.kept-is)
      (goes_on _ _ _ (Rows _) _ _ _ _ _ _ _ _ _ _ c.loop.invariant w.in-Rows.ensures.2 by.standing
      (λ all. (sym by.handed ∙ all, appends_none _)) by.shown)
]
