use Rattle.match_laws.proofs.ChaseLemmas.{chase_tells, won_by_wickets}
use Rattle.match_laws.proofs.laws.chases_end_at_the_target.Goals as goal

pub returns : goal.returns
returns c = record { last_innings = chase_tells; by_wickets = won_by_wickets; matches = λ m n h s. won_by_wickets n h (s.one_or_two).1 s.legal }
