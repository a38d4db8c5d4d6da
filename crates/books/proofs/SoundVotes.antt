-- The votes of a desk's file are a sequence, so the file has at most one vote at a position.
use Rattle.std.proofs.Common.{◌≡◌, ℕ, List, Ok, ap, arith}
use Rattle.notation.specs.declared.entry.Entry.{Entry}
use Rattle.agree_core.specs.declared.{position.Position.Position, messages.DeskId.DeskId}
use Rattle.agree_core.specs.Ballots.{Ballot, In, desk_number}
use Rattle.entry_log.specs.Format.{contents}
use Rattle.entry_log.specs.Version1.{version_1}
use Rattle.entry_log.specs.Version2.{version_2}
use Rattle.vote_store.specs.Laws.{IsVotes}
use Rattle.vote_store.proofs.FileLemmas.{file_votes-votes, first_are_votes}
use Rattle.books.specs.CardBook.{votes_in_file}
use Rattle.books.specs.declared.desk_votes.DeskVotes.{DeskVotes}
use Rattle.books.specs.declared.desk_votes.DeskVotes.TheVariants.{Old, New}
use Rattle.books.specs.DeskVotes.{read_votes}
use Rattle.books.proofs.AgreedSoFar.{one_vote}

pub are_votes : (votes : DeskVotes) → IsVotes (read_votes votes)
are_votes (Old votes) = first_are_votes _ _ _ _ _
are_votes (New votes) = first_are_votes _ _ _ _ _

pub one_entry : (votes : DeskVotes) (at : Position) (e f : Entry) → In (record { at = at; entry = e }) (read_votes votes) →
    In (record { at = at; entry = f }) (read_votes votes) → e ≡ f
one_entry votes at e f i j = ap (λ (b : Ballot). b.entry) (one_vote (read_votes votes) (are_votes votes).sequence _ _ i j (λ _. at))

-- the votes of a file of either version are votes
pub in_file : (desk : DeskId) (game : ℕ) (file : List ℕ) (votes : List Ballot) → votes_in_file desk game file ≡ Ok votes → IsVotes votes
in_file desk game file votes e =
    let old = file_votes-votes (contents version_1) (desk_number desk) game file votes in
    let new = file_votes-votes (contents version_2) (desk_number desk) game file votes in grind (arith, old, new)
