use Rattle.std.proofs.Common.{arith}
use Rattle.agree_core.proofs.FileBooks.{agreed_by_files, book_begins, book_long, files_settled}
use Rattle.agree_core.proofs.LastVotes.{lists_last_votes}
use Rattle.agree_core.proofs.laws.files_show_the_agreed_list.Goals as goal

pub returns : goal.returns
returns c = search (arith, files_settled, book_long, lists_last_votes, book_begins, agreed_by_files)
