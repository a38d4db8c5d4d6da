-- What a viewer is sent: an HTTP head, as `http1` writes it, followed by the page, one of the texts that are shown, or a
-- refusal.
use Rattle.std.specs.Prelude.{◌≡◌, ℕ, ◌+◌, ◌-◌, ◌^◌, min, bytes_eq, ◌==◌, Bool, true, false, if◌then◌else◌, List, [], ◌∷◌, ◌++◌, length, codes, decimal}
use Rattle.hex.specs.Hex.{encode_lower}
use Rattle.http1.specs.declared.server.Server.{Server}
use Rattle.http1.specs.declared.conn.BodySize.TheVariants.{Known, Unknown}
use Rattle.http1.specs.Fields.{Header}
use Rattle.http1.specs.Server.{after_response, planned_response, writing}
use Rattle.http1.specs.Conn.{after_data, data_text, finish_text}
use Rattle.viewers.specs.declared.asks.{Ask.Ask, Asked.Asked}
use Rattle.viewers.specs.declared.asks.Ask.TheVariants.{Page, Lines, State, Book, Events, Given, Typed, Signed, Handed, Unready, Full, Missing, Method, Foreign, Faulty}
use Rattle.served_pages.specs.declared.scoreboard.TheConstants as board
use Rattle.served_pages.specs.declared.desk.TheConstants as desk
use Rattle.viewers.specs.declared.{page_texts.PageTexts.PageTexts, station.Station.Station}
use Rattle.viewers.specs.declared.station.Station.TheVariants.{Board, Desk}

-- a station's page, and its content security policy
abbrev pub page_of : Station → List ℕ
page_of Board = board.PAGE.now
page_of Desk = desk.PAGE.now

abbrev pub policy_of : Station → List ℕ
policy_of Board = board.POLICY.now
policy_of Desk = desk.POLICY.now

-- the methods allowed at a station's page
abbrev pub allowed_at : Station → List ℕ
allowed_at Board = codes "GET, HEAD"
allowed_at Desk = codes "GET, HEAD, POST"

-- `retry-after` in seconds for status 503, and otherwise the methods allowed
abbrev pub hint_of : Station → ℕ → Header
hint_of station status = if status == 503 then (codes "retry-after", codes "2") else (codes "allow", allowed_at station)

-- the header fields of a response with this status and content type
abbrev pub fields_of : Station → ℕ → List ℕ → List Header
fields_of station status kind =
    (codes "content-type", kind)
    ∷ (codes "cache-control", codes "no-store")
    ∷ (codes "x-content-type-options", codes "nosniff")
    ∷ (codes "referrer-policy", codes "no-referrer")
    ∷ (codes "content-security-policy", policy_of station)
    ∷ hint_of station status
    ∷ (codes "connection", codes "close")
    ∷ []

-- the text that is sent: none if only the head is asked for
abbrev pub sent_of : List ℕ → Bool → List ℕ
sent_of text is_head = if is_head then [] else text

-- a head with this status, followed by a whole text of this type, or only the head
abbrev pub whole_text : Server → Station → ℕ → List ℕ → List ℕ → List ℕ → Bool → List ℕ
whole_text s station status reason kind text is_head =
    let size = Known (length text) in
    let sent = sent_of text is_head in
    let after = writing (after_response s status size (fields_of station status kind)) in
    planned_response s status reason size (fields_of station status kind)
    ++ data_text after sent
    ++ finish_text (after_data after (length sent)) []

abbrev pub html : List ℕ
html = codes "text/html; charset=utf-8"

abbrev pub json : List ℕ
json = codes "application/json"

abbrev pub plain : List ℕ
plain = codes "text/plain; charset=utf-8"

abbrev pub events : List ℕ
events = codes "text/event-stream"

-- the head of a stream, which states follow
abbrev pub stream_text : Server → Station → List ℕ
stream_text s station = planned_response s 200 (codes "OK") Unknown (fields_of station 200 events)

abbrev pub page_text : Server → Station → Bool → List ℕ
page_text s station head = whole_text s station 200 (codes "OK") html (page_of station) head

-- a nonce, as a text of one line
abbrev pub nonce_text : Server → Station → ℕ → List ℕ
nonce_text s station nonce = whole_text s station 200 (codes "OK") plain (decimal nonce ++ codes "\n") false

-- an encrypted secret in hex digits, as a text of one line
abbrev pub handed_text : Server → Station → List ℕ → List ℕ
handed_text s station hidden = whole_text s station 200 (codes "OK") plain (encode_lower hidden ++ codes "\n") false

-- the answer to a request while these texts are shown
abbrev pub answer_text : Server → Ask → Bool → PageTexts → List ℕ
answer_text s Page head shown = page_text s shown.station head
answer_text s Lines head shown =
    whole_text s shown.station 200 (codes "OK") plain shown.lines.items head
answer_text s State head shown = whole_text s shown.station 200 (codes "OK") json shown.state.items head
answer_text s Book head shown = whole_text s shown.station 200 (codes "OK") json shown.book.items head
answer_text s Events head shown = stream_text s shown.station
answer_text s (Given nonce) head shown = nonce_text s shown.station nonce
answer_text s Typed head shown = whole_text s shown.station 200 (codes "OK") plain (codes "typed\n") head
answer_text s Signed head shown = whole_text s shown.station 200 (codes "OK") plain (codes "signed\n") head
answer_text s (Handed hidden) head shown = handed_text s shown.station hidden
answer_text s Unready head shown = whole_text s shown.station 503 (codes "Not Yet") plain (codes "no score yet\n") head
answer_text s Full head shown = whole_text s shown.station 503 (codes "Full") plain (codes "no place is free\n") head
answer_text s Missing head shown = whole_text s shown.station 404 (codes "Not Found") plain (codes "not here\n") head
answer_text s Method head shown = whole_text s shown.station 405 (codes "Not Allowed") plain (codes "only GET\n") head
answer_text s Foreign head shown = whole_text s shown.station 403 (codes "Forbidden") plain (codes "another host\n") head
answer_text s (Faulty status) head shown = whole_text s shown.station status (codes "Refused") plain (codes "refused\n") head

abbrev pub reply_text : Server → Asked → PageTexts → List ℕ
reply_text s asked shown = answer_text s asked.ask asked.is_head shown

-- a text that ends with a line feed, as an event with its number
abbrev pub event_of : ℕ → List ℕ → List ℕ
event_of number text = codes "id: " ++ decimal number ++ codes "\ndata: " ++ text ++ codes "\n"

-- the number of the text that a signed or an unsigned viewer reads
abbrev pub number_for : Bool → PageTexts → ℕ
number_for true shown = shown.veiled.number
number_for false shown = shown.number

-- what is shown as an event: the encrypted text for a signed viewer, the state for any other
abbrev pub event : Bool → PageTexts → List ℕ
event true shown = event_of shown.veiled.number shown.veiled.text.items
event false shown = event_of shown.number shown.state.items

-- what a watching viewer, signed or not, is told: the text shown, or a beat
abbrev pub told_text : Server → Bool → PageTexts → List ℕ
told_text s is_signed shown = data_text (writing s) (event is_signed shown)

abbrev pub beat_text : Server → List ℕ
beat_text s = data_text (writing s) (codes "event: beat\ndata: -\n\n")

-- the texts that aren't encrypted are equal
pub record SameOpenly (one other : PageTexts) : Type 0 where
  pub station : other.station ≡ one.station
  pub lines : other.lines.items ≡ one.lines.items
  pub state : other.state.items ≡ one.state.items
  pub book : other.book.items ≡ one.book.items
  pub number : other.number ≡ one.number

-- the number of a state that follows one with this number: it stays if the state is the same
abbrev pub next_number : ℕ → List ℕ → List ℕ → ℕ
next_number number before state = if bytes_eq before state then number else min (number + 1) (2 ^ 64 - 1)

-- of the texts that aren't encrypted, the state is this one from now on, and nothing else changes
pub record ShowsOpenly (state : List ℕ) (before after : PageTexts) : Type 0 where
  pub station : after.station ≡ before.station
  pub lines : after.lines.items ≡ before.lines.items
  pub book : after.book.items ≡ before.book.items
  pub state_is : after.state.items ≡ state
  pub number : after.number ≡ next_number before.number before.state.items state

-- of the texts that aren't encrypted, the book is this one from now on, and nothing else changes
pub record ShowsBook (book : List ℕ) (before after : PageTexts) : Type 0 where
  pub station : after.station ≡ before.station
  pub lines : after.lines.items ≡ before.lines.items
  pub state : after.state.items ≡ before.state.items
  pub number : after.number ≡ before.number
  pub book_is : after.book.items ≡ book
