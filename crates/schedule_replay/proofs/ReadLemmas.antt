-- The desk's votes are the first of its file's votes.
use Rattle.std.proofs.Common.{◌≡◌, ◌≤◌, ℕ, Option, Some, List, [], ◌∷◌, ◌++◌, length, ap, ◌∙◌, inl, inr, arith, length-append}
use Rattle.std.proofs.Math.Seq.{drop-append_seam}
use Rattle.entry_log.specs.Format.{contents}
use Rattle.entry_log.specs.MemDisk.{file_of}
use Rattle.entry_log.specs.declared.mem_disk.MemDisk.{MemDisk}
use Rattle.agree_core.specs.declared.messages.DeskId.{DeskId}
use Rattle.agree_core.specs.Ballots.{Ballot, oldest, votes_by}
use Rattle.agree_core.specs.Readers.{other}
use Rattle.vote_store.specs.View.{votes_shown}
use Rattle.schedule_replay.specs.declared.{site.Site.Site, world.World.World}
use Rattle.headline.specs.Configurations.{Node, Configuration, node, process_disk, process_votes, all_votes}
use Rattle.headline.specs.Match.{format_of, match_of}
use Rattle.schedule_replay.specs.inner.Sites.{HasNode, PutsDown}
use Rattle.schedule_replay.specs.CodeWorlds.{HasConfiguration, code_site}
use Rattle.schedule_replay.specs.inner.VotesFiles.{FilesRead, SiteReads}
use Rattle.agree_core.specs.Keeping.{ShowsMore}
use Rattle.headline.proofs.Keeping.{Fine, fine_disk, node_fine}
use Rattle.schedule_replay.proofs.SiteLemmas.{site_disk}

first_are : (later votes found : List Ballot) (n : ℕ) → found ≡ later ++ votes → n ≡ length votes → (n ≤ length found) × (oldest n found ≡ votes)
first_are later votes found n e size = grind (arith, length-append later votes, drop-append_seam later votes)

-- after a desk is put down, a read of its file still gives its votes, and perhaps later ones
pub put_down_reads : (old new : Site) (disk : MemDisk) (x : Node MemDisk) → HasNode old x → SiteReads old.game old.innings_a_side old.name x
    → PutsDown old new → new.disk ≡ Some disk → (later : List Ballot) ×
    (votes_shown (contents (format_of new.version)) new.name new.game (file_of disk) ≡ Some (later ++ process_votes x.process))
put_down_reads old new disk x h reads put there = (reads.0, grind (arith, site_disk old x h, h.version, put, reads.1))

-- the first of the votes found are the desk's
pub put_down_votes : (old new : Site) (disk : MemDisk) (x : Node MemDisk) (found : List Ballot) → HasNode old x
    → SiteReads old.game old.innings_a_side old.name x → PutsDown old new → new.disk ≡ Some disk
    → votes_shown (contents (format_of new.version)) new.name new.game (file_of disk) ≡ Some found
    → (new.votes ≤ length found) × (oldest new.votes found ≡ process_votes x.process)
put_down_votes old new disk x found h reads put there shows =
    let read = put_down_reads old new disk x h reads put there in
    first_are read.0 (process_votes x.process) found new.votes (grind (arith, shows, read.1)) (put.counted ∙ (site_disk old x h).votes)

-- a read of a desk's file in the match is a read of its site's file
pub of_names : (code : World) (d : DeskId) (w : Configuration MemDisk) → HasConfiguration code w → FilesRead code.game code.innings_a_side w
    → SiteReads (code_site code d).game (code_site code d).innings_a_side (code_site code d).name (node w d)
of_names code d w h reads =
    let names = h.named d in rw (names.same_name, names.same_game) (reads d)

-- in a run a read of each file gives the desk's votes, and perhaps one more
pub files_read : (game innings : ℕ) (w : Configuration MemDisk) → Fine (match_of game innings) w → FilesRead game innings w
files_read game innings w f d =
    let s = match_of game innings in
    let x = node w d in
    let theirs = votes_by (all_votes w) (other d) in
    more theirs (process_votes x.process) ((s.view d x.version).reads (process_disk x.process)) (fine_disk s x.version d theirs x.process (node_fine s w d f)).0
  where
    more : (theirs votes : List Ballot) (shown : Option (List Ballot)) → ShowsMore theirs votes shown → (later : List Ballot) × (shown ≡ Some (later ++ votes))
    more theirs votes shown (these, e, inl h) = ([], e ∙ ap Some h)
    more theirs votes shown (these, e, inr (b, h, j)) = (b ∷ [], e ∙ ap Some h)
