use Rattle.std.proofs.Common.{◌≡◌, ◌+◌, ◌-◌, length, sym, ap, ◌∙◌, arith}
use Rattle.vote_store.proofs.FileLemmas.{oldest-all}
use Rattle.books.specs.DeskVotes.{read_votes}
use Rattle.commands.specs.Ends.{places_of}
use Rattle.commands.proofs.file_ends.places_of.Goals as goal

pub returns : goal.returns
returns c =
    let votes = read_votes c.args.votes.now in
    let last = c.count-count.result - 1 + 1 in
    let all : length votes ≡ last = omega (arith, c.count-count.ensures, c.if-count-eq0.false) in
    sym (ap places_of (sym (oldest-all votes last all) ∙ c.nth.ensures.vote))
