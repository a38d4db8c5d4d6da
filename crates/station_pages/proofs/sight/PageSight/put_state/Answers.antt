use Rattle.std.proofs.Common.{◌∙◌, ◌++◌, ◌∷◌, [], ℕ, List, ap₂, inr}
use Rattle.station_pages.specs.Sights.{texts_in}
use Rattle.station_pages.proofs.sight.PageSight.put_state.Goals as goal

pub returns-in-Ok-clause-shows : goal.returns-in-Ok-clause-shows
returns-in-Ok-clause-shows g c =
    inr (
      c.args.held.now,
      c.given.ensures ∙ ap₂ (λ (openly own : List ℕ). texts_in c.args.self.now.log ++ (openly, own) ∷ []) c.in-Ok.ensures.openly c.in-Ok.ensures.own,
    )
