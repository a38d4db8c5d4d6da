use Rattle.std.proofs.Common.{◌∙◌, sym}
use borrow.Author.Count.{below_more}
use Rattle.books.specs.DeskVotes.{votes_of_both}
use Rattle.agree_core.specs.declared.position.TheConstants.{ROUNDS}
use Rattle.books.specs.OneHistory.{IsWholeAt}
use Rattle.books.proofs.SoundVotes.{are_votes}
use Rattle.books.proofs.Tears.{none_torn}
use Rattle.books.proofs.one_history.first_torn.Goals as goal

pub returns-then-not-has_vote : goal.returns-then-not-has_vote
returns-then-not-has_vote c =
    none_torn (votes_of_both c.args.a.now c.args.b.now) c.loop-place.place (are_votes c.args.a.now).sequence
    c.loop-place.invariant (sym c.has_vote.ensures ∙ c.if-not-has_vote.true)

pub loop-place-preserved : goal.loop-place-preserved
loop-place-preserved c =
    below_more (λ p. IsWholeAt (votes_of_both c.args.a.now c.args.b.now) p ROUNDS) c.loop-place.place c.loop-place.invariant
    (c.is_torn_at.ensures.whole c.if-is_torn_at.false)
