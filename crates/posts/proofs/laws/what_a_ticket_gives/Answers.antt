use Rattle.posts.proofs.TicketLemmas.{is_handed}
use Rattle.posts.proofs.laws.what_a_ticket_gives.Goals as goal

pub returns : goal.returns
returns c = is_handed
