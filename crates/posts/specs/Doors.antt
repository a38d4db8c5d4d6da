-- What a page keeps about who may type.
use Rattle.std.specs.Prelude.{ℕ, List, Option}
use Rattle.posts.specs.declared.tickets.Ticket.{Ticket}

-- the page's secret, the ticket that is out, the nonces that are out, the oldest first, the next nonce, and the number of the
-- next frame
pub record Door : Type 0 where
  pub secret : List ℕ
  pub ticket : Option Ticket
  pub out : List ℕ
  pub next : ℕ
  pub number : ℕ
