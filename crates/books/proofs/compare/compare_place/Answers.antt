use Rattle.std.proofs.Common.{arith}
use Rattle.std.proofs.lemmas.Bool.Decides.{nat_tests}
use Rattle.agree_core.specs.declared.position.TheConstants.{ROUNDS}
use Rattle.books.specs.DeskVotes.{votes_of_both}
use Rattle.books.proofs.Differences.{added_all, added_next, added_none}
use Rattle.books.proofs.SoundVotes.{are_votes}
use Rattle.books.proofs.compare.compare_place.Goals as goal

pub loop-round-init : goal.loop-round-init
loop-round-init c = (added_none (votes_of_both c.args.a.now c.args.b.now) c.args.place c.args.found.now.items, c.requires)

pub returns-then-not-branch-clause-found : goal.returns-then-not-branch-clause-found
returns-then-not-branch-clause-found c =
    let votes = votes_of_both c.args.a.now c.args.b.now in
    let e = c.in_ok-compare_round.ensures in
    added_all votes c.args.place (are_votes c.args.a.now).sequence (are_votes c.args.b.now).sequence c.loop-round.round
    (e.no_first c.if-not-branch.true) (e.no_second c.if-not-branch.true) ROUNDS _ _ c.loop-round-test.true
    (added_next votes c.args.place c.loop-round.round _ _ _ c.loop-round.invariant.0 e.found)

pub loop-round-preserved : goal.loop-round-preserved
loop-round-preserved c = (
  added_next (votes_of_both c.args.a.now c.args.b.now) c.args.place c.loop-round.round _ _ _ c.loop-round.invariant.0 c.in_ok-compare_round.ensures.found,
  c.in_ok-compare_round.ensures.all_entries,
)

-- if an earlier round had a vote, the answer is that something was written
pub returns-then-not-branch-clause-no_first : goal.returns-then-not-branch-clause-no_first
returns-then-not-branch-clause-no_first c = λ none.
    grind (arith, nat_tests, c.in_ok-compare_round.ensures.no_first c.if-not-branch.true)

pub returns-then-not-branch-clause-no_second : goal.returns-then-not-branch-clause-no_second
returns-then-not-branch-clause-no_second c = λ none.
    grind (arith, nat_tests, c.in_ok-compare_round.ensures.no_second c.if-not-branch.true)
