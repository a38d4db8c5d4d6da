-- How the ticket in a square's link is exchanged for the page's secret. Neither is ever sent in the clear: whoever shows a
-- tag made with the ticket is handed the secret, encrypted by the ticket.
use Rattle.std.specs.Prelude.{◌≡◌, ◌<◌, ◌-◌, ℕ, Bool, true, false, nat_lt, bytes_eq, if◌then◌else◌, List, [], ◌∷◌, ◌++◌, length, codes, Option, None, Some, bit_xor}
use Rattle.seal.specs.Hmac.{hmac}
use Rattle.posts.specs.declared.tickets.{Ticket.Ticket, TheConstants.GOOD_FOR}

-- shows that its maker has the ticket
abbrev pub ticket_tag : List ℕ → List ℕ
ticket_tag key = hmac key (codes "ticket")

-- encrypts a secret by the ticket
abbrev pub pad_of : List ℕ → List ℕ
pad_of key = hmac key (codes "secret")

-- bytes XORed with a pad
abbrev pub xored : List ℕ → List ℕ → List ℕ
xored [] pad = []
xored (byte ∷ bytes) [] = []
xored (byte ∷ bytes) (turns ∷ pad) = bit_xor byte turns ∷ xored bytes pad

-- whether this is the tag of the ticket that is out, and its time isn't over
abbrev pub is_good_ticket : Option Ticket → List ℕ → ℕ → Bool
is_good_ticket None tag now = false
is_good_ticket (Some ticket) tag now =
    if nat_lt (now - ticket.since) GOOD_FOR then bytes_eq tag (ticket_tag ticket.key) else false

-- the ticket that is out after a call with this tag: a good one is used up
abbrev pub ticket_after : Option Ticket → List ℕ → ℕ → Option Ticket
ticket_after ticket tag now = if is_good_ticket ticket tag now then None else ticket

-- a secret encrypted by a ticket, if there is one
abbrev pub hidden_by : Option Ticket → List ℕ → Option (List ℕ)
hidden_by None secret = None
hidden_by (Some ticket) secret = Some (xored secret (pad_of ticket.key))

-- what is handed out for this tag: nothing if the tag isn't good
abbrev pub handed : List ℕ → Option Ticket → List ℕ → ℕ → Option (List ℕ)
handed secret ticket tag now = if is_good_ticket ticket tag now then hidden_by ticket secret else None

-- what holds if something is handed out for a tag
pub record IsHanded (secret : List ℕ) (ticket : Option Ticket) (tag : List ℕ) (now : ℕ) (text : List ℕ) : Type 0 where
  pub given : Ticket
  pub was_out : ticket ≡ Some given
  pub in_time : now - given.since < GOOD_FOR
  pub by_its_tag : tag ≡ ticket_tag given.key
  pub is_used : ticket_after ticket tag now ≡ None
  -- whoever has the ticket reads the secret
  pub opens : length secret ≡ 16 → xored text (pad_of given.key) ≡ secret

-- someone who asks: with which tag, and when
pub record Asking : Type 0 where
  pub tag : List ℕ
  pub now : ℕ

abbrev pub those_handed : Bool → Asking → List Asking
those_handed true one = one ∷ []
those_handed false one = []

-- those who are handed the secret, of all who ask between two squares
abbrev pub handed_in : Option Ticket → List Asking → List Asking
handed_in ticket [] = []
handed_in ticket (one ∷ more) =
    those_handed (is_good_ticket ticket one.tag one.now) one ++ handed_in (ticket_after ticket one.tag one.now) more
