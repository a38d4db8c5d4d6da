use Rattle.std.specs.Prelude.{Ok, Err}
use Rattle.books.specs.DeskVotes.{votes_of_both}
use Rattle.books.proofs.BothBooks.{made, not_made}
use Rattle.books.proofs.both.book_of_both.Goals as goal

pub returns-in-Ok-clause-book : goal.returns-in-Ok-clause-book
returns-in-Ok-clause-book c =
    let book = c.in-Ok in
    made c.args.sheet.now (rw c.game.ensures at c.in_ok-a_votes.ensures.votes) (rw c.in_default.is at c.first_torn.ensures) c.in_ok-list.ensures.agreed c.as_slice.ensures.value
    c.innings.ensures.value (Ok book.book) book.ensures.book book.ensures.taken

pub returns-in-Ok-clause-same_match : goal.returns-in-Ok-clause-same_match
returns-in-Ok-clause-same_match c = rw (← c.innings.ensures.value) c.in-Ok.ensures.same_match

pub returns-in-Err-clause-why : goal.returns-in-Err-clause-why
returns-in-Err-clause-why c =
    not_made c.args.sheet.now (rw c.game.ensures at c.in_ok-a_votes.ensures.votes) (rw c.in_default.is at c.first_torn.ensures) c.in_ok-list.ensures.agreed c.as_slice.ensures.value
    c.innings.ensures.value (Err c.in-Err.why) c.in-Err.ensures.why

pub returns-in-Some-clause-why : goal.returns-in-Some-clause-why
returns-in-Some-clause-why c = record {
  votes = votes_of_both c.in_ok-a_votes.a_votes c.in_ok-a_votes.b_votes;
  read = rw c.game.ensures at c.in_ok-a_votes.ensures.votes;
  torn = rw c.in-Some.is at c.first_torn.ensures;
}
