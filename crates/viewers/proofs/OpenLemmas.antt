-- What is served depends only on the texts that aren't encrypted.
use Rattle.std.proofs.Common.{◌≡◌, ◌∙◌, Bool, false, ap, codes}
use Rattle.http1.specs.declared.server.Server.{Server}
use Rattle.http1.specs.Server.{writing}
use Rattle.http1.specs.Conn.{data_text}
use Rattle.viewers.specs.Replies.{SameOpenly, answer_text, event_of, handed_text, json, nonce_text, number_for, page_text, plain, stream_text, told_text, whole_text}
use Rattle.viewers.specs.declared.asks.Ask.{Ask}
use Rattle.viewers.specs.declared.asks.Ask.TheVariants.{Page, Lines, State, Book, Events, Given, Typed, Signed, Handed, Unready, Full, Missing, Method, Foreign, Faulty}
use Rattle.viewers.specs.declared.page_texts.PageTexts.{PageTexts}

pub same_answer : (s : Server) (ask : Ask) (head : Bool) (one other : PageTexts)
    → SameOpenly one other → answer_text s ask head other ≡ answer_text s ask head one
same_answer s Page head one other same = ap (λ t. page_text s t head) same.station
same_answer s Lines head one other same =
    ap (λ t. whole_text s t 200 (codes "OK") plain other.lines.items head) same.station
    ∙ ap (λ l. whole_text s one.station 200 (codes "OK") plain l head) same.lines
same_answer s State head one other same =
    ap (λ t. whole_text s t 200 (codes "OK") json other.state.items head) same.station
    ∙ ap (λ l. whole_text s one.station 200 (codes "OK") json l head) same.state
same_answer s Book head one other same =
    ap (λ t. whole_text s t 200 (codes "OK") json other.book.items head) same.station
    ∙ ap (λ b. whole_text s one.station 200 (codes "OK") json b head) same.book
same_answer s Events head one other same = ap (stream_text s) same.station
same_answer s (Given nonce) head one other same = ap (λ t. nonce_text s t nonce) same.station
same_answer s (Handed hidden) head one other same = ap (λ t. handed_text s t hidden) same.station
same_answer s Typed head one other same = ap (λ t. whole_text s t 200 (codes "OK") plain (codes "typed\n") head) same.station
same_answer s Signed head one other same = ap (λ t. whole_text s t 200 (codes "OK") plain (codes "signed\n") head) same.station
same_answer s Unready head one other same = ap (λ t. whole_text s t 503 (codes "Not Yet") plain (codes "no score yet\n") head) same.station
same_answer s Full head one other same = ap (λ t. whole_text s t 503 (codes "Full") plain (codes "no place is free\n") head) same.station
same_answer s Missing head one other same = ap (λ t. whole_text s t 404 (codes "Not Found") plain (codes "not here\n") head) same.station
same_answer s Method head one other same = ap (λ t. whole_text s t 405 (codes "Not Allowed") plain (codes "only GET\n") head) same.station
same_answer s Foreign head one other same = ap (λ t. whole_text s t 403 (codes "Forbidden") plain (codes "another host\n") head) same.station
same_answer s (Faulty status) head one other same = ap (λ t. whole_text s t status (codes "Refused") plain (codes "refused\n") head) same.station

pub same_told : (s : Server) (one other : PageTexts) → SameOpenly one other → told_text s false other ≡ told_text s false one
same_told s one other same =
    ap (λ n. data_text (writing s) (event_of n other.state.items)) same.number
    ∙ ap (λ t. data_text (writing s) (event_of one.number t)) same.state

pub same_number : (one other : PageTexts) → SameOpenly one other → number_for false other ≡ number_for false one
same_number one other same = same.number
