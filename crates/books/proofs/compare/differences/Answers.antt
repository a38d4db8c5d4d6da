use Rattle.std.proofs.Common.{refl}
use Rattle.std.proofs.lemmas.List.Elements.{All-nil}
use Rattle.books.specs.Comparing.{HasEntries, in_places}
use Rattle.books.specs.DeskVotes.{votes_of_both}
use Rattle.books.proofs.Differences.{placed_all, placed_next}
use Rattle.books.proofs.SoundVotes.{are_votes}
use Rattle.books.proofs.compare.differences.Goals as goal

pub loop-place-init : goal.loop-place-init
unfolding in_places
loop-place-init c = rw c.new-found.ensures.items (refl, All-nil HasEntries)

pub loop-place-preserved : goal.loop-place-preserved
loop-place-preserved c = (
  placed_next (votes_of_both c.args.a.now c.args.b.now) c.loop-place.place _ _ c.loop-place.invariant.0 c.in_ok-compare_place.ensures.found,
  c.in_ok-compare_place.ensures.all_entries,
)

pub returns-then-not-branch-clause-found : goal.returns-then-not-branch-clause-found
returns-then-not-branch-clause-found c =
    let e = c.in_ok-compare_place.ensures in
    placed_all (votes_of_both c.args.a.now c.args.b.now) (are_votes c.args.a.now).sequence (are_votes c.args.b.now).sequence
    c.loop-place.place _ _ c.loop-place-test.true (e.no_first c.if-not-branch.true) (e.no_second c.if-not-branch.true)
    c.loop-place.invariant.0 e.found
