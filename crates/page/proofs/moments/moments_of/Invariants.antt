use Rattle.std.proofs.Common.{◌≤◌, ◌*◌, drop}
use Rattle.corrections.specs.CleanList.{clean, kept}
use Rattle.page.proofs.Momenting.{Telling}
use Rattle.page.proofs.moments.moments_of.Given as goal

-- each item has at most 260 runs
abbrev pub invariant-loop-index : goal.invariant-loop-index
invariant-loop-index g l =
    Telling (clean (g.B.BookOf.content l.book)) (kept (drop l.index l.clean_items)) l.innings_a_side l.score l.over l.moments.items
    × (l.over.runs ≤ 260 * l.index) × (l.over.down ≤ l.index)
