use Rattle.std.proofs.Common.{arith}
use Rattle.std.proofs.lemmas.List.{drop_all, drop_more}
use Rattle.desk_state.specs.Book.{index_of}
use Rattle.desk_state.proofs.news.index_of.Goals as goal

pub returns-then-items-index-clause-value : goal.returns-then-items-index-clause-value
returns-then-items-index-clause-value c = grind (arith, drop_more c.args.items.now c.loop-index.index c.index-items-index.result)

pub loop-index-preserved : goal.loop-index-preserved
loop-index-preserved c = grind (arith, drop_more c.args.items.now c.loop-index.index c.index-items-index.result)

pub returns-clause-value : goal.returns-clause-value
returns-clause-value c = search (arith, index_of, drop_all)
