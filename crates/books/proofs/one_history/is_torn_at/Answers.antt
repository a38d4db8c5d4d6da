use Rattle.std.proofs.Common.{◌≡◌, ◌∙◌, false, sym}
use borrow.Author.Count.{below_more}
use Rattle.books.specs.DeskVotes.{votes_of_both}
use Rattle.books.specs.OneHistory.{is_torn}
use Rattle.books.proofs.SoundVotes.{are_votes}
use Rattle.books.proofs.Tears.{none_more}
use Rattle.books.proofs.one_history.is_torn_at.Goals as goal

pub returns-then-not-has_vote-clause-whole : goal.returns-then-not-has_vote-clause-whole
returns-then-not-has_vote-clause-whole c = λ _.
    none_more (votes_of_both c.args.a.now c.args.b.now) c.args.place c.loop-round.round (are_votes c.args.a.now).sequence
    c.loop-round.invariant (sym c.has_vote.ensures ∙ c.if-not-has_vote.true)

pub loop-round-preserved : goal.loop-round-preserved
loop-round-preserved c =
    below_more (λ r. is_torn (votes_of_both c.args.a.now c.args.b.now) c.args.place r ≡ false) c.loop-round.round c.loop-round.invariant
    (sym c.is_torn.ensures ∙ c.if-is_torn.false)
