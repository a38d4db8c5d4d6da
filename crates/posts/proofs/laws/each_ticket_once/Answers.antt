use Rattle.posts.proofs.TicketLemmas.{once}
use Rattle.posts.proofs.laws.each_ticket_once.Goals as goal

pub returns : goal.returns
returns c = once
