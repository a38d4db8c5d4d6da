use Rattle.vote_store.proofs.FileLemmas.{file_votes-votes}
use Rattle.desk_command.proofs.desk_disk.judged.Goals as goal

pub end-requires : goal.end-requires
end-requires c =
    let e = c.in-Ok.ensures in
    (_, _, e.given, file_votes-votes _ _ _ _ _ e.found)
