use Rattle.std.proofs.Common.{◌∙◌, sym}
use Rattle.world_desks.specs.VotesFiles.{read_votes}
use Rattle.schedule_replay.proofs.ReadLemmas.{put_down_reads, put_down_votes}
use Rattle.schedule_replay.proofs.site.Site.into_votes.Goals as goal

pub open-requires-clause-sound : goal.open-requires-clause-sound
open-requires-clause-sound c =
    let x = c.requires.read in
    let r = put_down_reads c.args.self c.put_down.new.self c.unwrap-disk.result x.0 x.1 x.2 c.put_down.ensures.down (sym c.take.ensures.value ∙ c.unwrap-disk.ensures) in
    (_, r.1)

pub returns-clause-counted : goal.returns-clause-counted
returns-clause-counted c =
    let x = c.requires.read in
    (put_down_votes c.args.self c.put_down.new.self c.unwrap-disk.result x.0 (read_votes c.in_ok-file.file) x.1 x.2 c.put_down.ensures.down
    (sym c.take.ensures.value ∙ c.unwrap-disk.ensures) c.in_ok-file.ensures).0

pub returns-clause-votes : goal.returns-clause-votes
returns-clause-votes c =
    λ x h r. (put_down_votes c.args.self c.put_down.new.self c.unwrap-disk.result x (read_votes c.in_ok-file.file) h r c.put_down.ensures.down
    (sym c.take.ensures.value ∙ c.unwrap-disk.ensures) c.in_ok-file.ensures).1
