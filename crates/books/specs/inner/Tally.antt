-- How many differences there are of each kind.
use Rattle.std.specs.Prelude.{List, count_by}
use Rattle.books.specs.Comparing.{is_of_a_alone, is_of_b_alone, is_of_both}
use Rattle.books.specs.declared.compare.{Difference.Difference, Tally.Tally}

abbrev pub tally_of : List Difference → Tally
tally_of ds = record {
  differed = count_by is_of_both ds;
  only_a = count_by is_of_a_alone ds;
  only_b = count_by is_of_b_alone ds;
}
