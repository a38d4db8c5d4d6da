use Rattle.agree_core.proofs.Desks.{creates_fine, desk_grows, not_opened_keeps, opened_keeps, pens_keep, receives_keep, ticks_keep}
use Rattle.agree_core.proofs.step_laws.desks_are_those_of_their_votes.Goals as goal

pub returns : goal.returns
returns g c = record {
  created = creates_fine _;
  pens = λ rules d theirs. pens_keep _ d theirs rules;
  receives = receives_keep _;
  ticks = ticks_keep _;
  opened = λ rules d theirs. opened_keeps _ d theirs rules;
  not_opened = λ rules d theirs. not_opened_keeps _ d theirs rules;
  grows = desk_grows _;
}
