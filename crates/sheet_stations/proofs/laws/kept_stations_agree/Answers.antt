use Rattle.sheet_stations.proofs.Matches.{lives_have_headline}
use Rattle.sheet_stations.proofs.laws.kept_stations_agree.Goals as goal

pub returns-clause-answered : goal.returns-clause-answered
returns-clause-answered c = lives_have_headline
