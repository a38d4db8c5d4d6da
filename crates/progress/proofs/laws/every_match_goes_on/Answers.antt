use Rattle.headline.specs.Match.{setting_of}
use Rattle.progress.proofs.Progress.{holds_at}
use Rattle.progress.proofs.laws.every_match_goes_on.Goals as goal

pub returns : goal.returns
returns c start = λ contents game innings version boards w ms begins run.
    holds_at (setting_of contents c.D.Disk.seen c.D.Disk.images game innings) version boards w ms begins run
