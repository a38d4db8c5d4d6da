use Rattle.std.proofs.Common.{◌+◌, refl}
use Rattle.json_fields.proofs.Putting.{up_to-none}
use Rattle.page.specs.Idle.{idle_at}
use Rattle.page.proofs.Growing.{grows_up_to}
use Rattle.page.proofs.idle.idle_of.Goals as goal

pub loop-index-init : goal.loop-index-init
loop-index-init c = λ n h s. rw (c.new-players.ensures.items, up_to-none) refl

pub loop-index-preserved : goal.loop-index-preserved
loop-index-preserved c = λ n h s.
    let here = rw c.player_at.ensures at (c.in_ok-add_idle.ensures n h s) in
    grows_up_to _ _ (λ k. idle_at h c.args.innings (k + 1)) c.loop-index.index (c.loop-index.invariant n h s) here
