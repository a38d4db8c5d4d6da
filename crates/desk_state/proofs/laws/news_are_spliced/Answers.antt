use Rattle.desk_state.proofs.NewsLemmas.{news_spliced}
use Rattle.desk_state.proofs.laws.news_are_spliced.Goals as goal

pub returns : goal.returns
returns c = news_spliced
