use Rattle.agree_core.specs.Ballots.{votes_by}
use Rattle.agree_core.specs.Books.{book_of}
use Rattle.agree_core.proofs.FileBooks.{files_settled}
use Rattle.agree_core.proofs.Settling.{agreed_begins}
use Rattle.books.proofs.OneList.{one_list}
use Rattle.books.proofs.laws.both_begin_with_each.Goals as goal

pub returns : goal.returns
returns c = record {
  one = λ v xs ys s. one_list v s xs ys;
  begins = λ v agreed d j a. agreed_begins v v (λ b i. i, λ b i. i) j (book_of (votes_by v d)) agreed (files_settled v j d) a;
}
