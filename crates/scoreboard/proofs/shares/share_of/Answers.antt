use Rattle.std.proofs.Common.{sym, ap, ◌∙◌, arith}
use Rattle.ball_laws.specs.Laws.{state_after}
use Rattle.cards.proofs.Pages.{kept_later, kept_next}
use Rattle.scoreboard.proofs.ShareLemmas.{shares_one, shares_played}
use Rattle.scoreboard.proofs.shares.share_of.Goals as goal
use Rattle.scoreboard.proofs.shares.share_of.Goals.{then-not-is_void, else-not-is_void}

pub loop-index-preserved : goal.loop-index-preserved
loop-index-preserved c =
    let all = c.args.items.now in
    let kept_so = c.loop-index.invariant in
    elim c.if-not-is_void.branch [
      | then-not-is_void w ↦
          let next = kept_next all c.loop-index.index c.placed_at-placed.result c.placed_at-placed.ensures (sym w.if-not-is_void.ensures) in
          let m = rw next at kept_so.0 in
          let moved = w.crease_after-crease.ensures (state_after m.history) m.crease (shares_played m c.requires.played) in
          let ends = w.ends.ensures.value ∙ ap (λ s. s.ends) m.crease in
          let shared = rw (ends, m.share) at w.share_after-share.ensures.value in
          let runs = w.share_after-share.ensures.runs in
          let balls = w.share_after-share.ensures.balls in
          rw (w.crease-is, w.share-is) (shares_one m moved shared, omega (arith, runs, kept_so.1), omega (arith, balls, kept_so.2))
      | else-not-is_void w ↦
          let later = kept_later all c.loop-index.index c.placed_at-placed.result c.placed_at-placed.ensures (sym w.if-not-is_void.ensures) in
          rw (w.crease-is, w.share-is) (rw later at kept_so.0, omega (arith, kept_so.1), omega (arith, kept_so.2))
    ]
