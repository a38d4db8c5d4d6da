use Rattle.headline.specs.Match.{setting_of}
use Rattle.headline.proofs.EveryRun.{holds_in_run}
use Rattle.headline.proofs.laws.every_run_is_sound.Goals as goal

pub returns : goal.returns
returns c start = λ contents game innings version boards w ms begins run.
    holds_in_run (setting_of contents c.D.Disk.seen c.D.Disk.images game innings) innings (λ book e none. none) (λ book score stands. stands) version boards w ms begins run
