-- The text of words: their parts, one after another.
use Rattle.std.specs.Prelude.{ℕ, List, ◌++◌, codes, decimal}
use Rattle.cards.specs.declared.{dismissals.Words.Words, results.ResultWords.ResultWords}
use Rattle.cards.specs.declared.results.ResultWords.TheVariants.{Plain, Counted}

abbrev pub words_in : Words → List ℕ
words_in w = (w.how).now ++ ((w.fielder).now ++ ((w.joint).now ++ (w.bowler).now))

abbrev pub result_in : ResultWords → List ℕ
result_in (Plain side how) = side.now ++ how.now
result_in (Counted side how count unit) = side.now ++ how.now ++ (decimal count ++ codes " " ++ unit.now)
