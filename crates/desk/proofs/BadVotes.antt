-- When `BadVotes` is answered.
use Rattle.std.proofs.Common.{arith, Ok, Err, List, []}
use Rattle.agree_core.specs.Ballots.{Ballot}
use Rattle.agree_core.specs.Books.{AllTaken, Rules, voted_list}
use Rattle.agree_core.proofs.Taken.{not_both, refused_once}
use Rattle.desk.specs.declared.refusal.OpenRefusal.{OpenRefusal}
use Rattle.desk.specs.Restore.{NamesBadVotes, RefusesVotes}

module _ {T Why : Type 0} (rules : Rules Why) (votes : List Ballot) where
  -- a list that is accepted whole has no refused place
  pub none_named : (x : T) → AllTaken rules [] (voted_list votes) → NamesBadVotes {T = T} rules votes (Ok x)
  none_named x taken place = (λ h. absurd (cc), λ r. absurd (not_both rules [] (voted_list votes) place taken r))

  -- the named place is the first refused one
  pub named : (why : OpenRefusal) → RefusesVotes rules votes why → NamesBadVotes {T = T} rules votes (Err why)
  named why r place = grind (arith, refused_once)
