use Rattle.std.proofs.Common.{◌*◌, ap, ◌∙◌}
use Rattle.limits.specs.Rates.{an_over}
use Rattle.scoreboard.specs.inner.Recent.{sum_of}
use Rattle.scoreboard.proofs.RecentLemmas.{rate_is, recent_book}
use Rattle.scoreboard.proofs.recent.last_rate.Goals as goal

pub returns : goal.returns
returns g c =
    let is = c.recent_behind.ensures.value ∙ recent_book _ _ c.clean_items.ensures.value in
    c.rate_of.ensures ∙ ap (λ r. an_over (sum_of r.called) (6 * r.called.overs)) is ∙ rate_is _
