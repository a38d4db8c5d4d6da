-- What a scorer's line comes to, for each kind of answer. Every line is first put in full, by the desk's sheet and by its book
-- as it stands.
use Rattle.std.specs.Prelude.{◌≡◌, ◌≢◌, ◌≤◌, ◌⊎◌, ℕ, Bool, true, false, nat_lt, is_some, List, [], ◌++◌, Option, Some, None, Ok, Err, IfSome, IsSome, IsUtf8, codes, length}
use Rattle.arrayvec.specs.ArrayString.{ArrayString}
use Rattle.notation.specs.declared.entry.Entry.{Entry}
use Rattle.notation.specs.Written.{IsEntry, text_of}
use Rattle.agree_core.specs.declared.messages.Message.{Message}
use Rattle.corrections.specs.declared.refusal.Refusal.{Refusal as BookRefusal}
use Rattle.agree_core.specs.Ballots.{Ballot}
use Rattle.agree_core.specs.Books.{Rules}
use Rattle.agree_core.specs.Desks as desks
use Rattle.agree_core.specs.Desks.{DeskState, Pens}
use Rattle.agree_core.specs.FileView.{FileView}
use Rattle.desk.specs.Answers.{pen_answer}
use Rattle.desk.specs.Desk.{last_entry}
use Rattle.cards.specs.Sheet.{Sheet}
use Rattle.screen.specs.Words.{behind_plan, is_end, is_plan, word_of}
use Rattle.screen.specs.declared.word.Word.{Word}
use Rattle.shorthand.specs.Full.{entry_in_full, in_full}
use Rattle.shorthand.specs.Lines.{Reason, reason_of}
use Rattle.plans.specs.Planning.{IsPlanned}
use Rattle.station_texts.specs.declared.said.Said.{Said}
use Rattle.station_texts.specs.declared.said.Said.TheVariants.{Quit, Asks, Plan, Unclear, SayAgain, NoneDiffers, Waiting, Refused, Withheld, Penned}

-- a line as typed: with `again ` before it in every round but the first
abbrev pub says_again : Bool → List ℕ → List ℕ
says_again true text = codes "again " ++ text
says_again false text = text

-- the text, put in full, is the entry's
abbrev pub MeansEntry : Sheet → List Entry → List ℕ → Entry → Type 0
MeansEntry s book text e = IsEntry e × (in_full s book text ≡ Ok (text_of e))

-- `again` alone, after the scorers differed: it means what this scorer, who has cast these votes, wrote last
abbrev pub SaysOnceMore : List Ballot → Bool → List ℕ → Entry → Type 0
SaysOnceMore votes differs line e =
    (differs ≡ true) × (line ≡ codes "again") × (last_entry votes ≡ Some e) × IsEntry e

-- the line is none of the words that mean no entry
abbrev pub IsNoWord : List ℕ → Type 0
IsNoWord line = (is_end line ≡ false) × (word_of line ≡ None)

-- the line is no such word, but a text whose full form is the entry's, behind `again ` if the scorers differed; or, if they
-- did, `again` alone
abbrev pub LineMeans : Sheet → List Entry → List Ballot → Bool → List ℕ → Entry → Type 0
LineMeans s book votes differs line e =
    IsNoWord line
    × (((text : List ℕ) × (line ≡ says_again differs text) × MeansEntry s book text e) ⊎ SaysOnceMore votes differs line e)

-- the line says the entry in this round
abbrev pub SaysEntry : Sheet → List Entry → List Ballot → ℕ → List ℕ → Entry → Type 0
SaysEntry s book votes round line e = LineMeans s book votes (nat_lt 0 round) line e

-- the line doesn't begin with the word `again`
abbrev pub IsNotAgain : List ℕ → Type 0
IsNotAgain line = (line ≢ codes "again") × ((rest : List ℕ) → line ≢ codes "again " ++ rest)

-- `again` with nothing to say again: the scorers didn't differ here, or this one has cast no vote
abbrev pub IsAgainInVain : List Ballot → Bool → List ℕ → Type 0
IsAgainInVain votes differs line =
    ((differs ≡ false) × ((text : List ℕ) × (line ≡ codes "again " ++ text)))
    ⊎ ((line ≡ codes "again") × ((differs ≡ false) ⊎ (last_entry votes ≡ None)))

-- the text of the entry in a line, when the scorers differed at this place (true) or not (false)
abbrev pub IsTextOf : Bool → List ℕ → List ℕ → Type 0
IsTextOf true line text = line ≡ codes "again " ++ text
IsTextOf false line text = (text ≡ line) × IsNotAgain line

-- the text that is read as an entry's; if they differed and the desk has voted in the new round, also a line without `again `
abbrev pub IsReadAs : Bool → Bool → List ℕ → List ℕ → Type 0
IsReadAs differs false line text = IsTextOf differs line text
IsReadAs differs true line text = IsTextOf differs line text ⊎ IsTextOf false line text

-- a text that is read as an entry's means none: something in it is unclear, or its full form has a fault
abbrev pub MeansNone : Sheet → List Entry → Bool → Bool → List ℕ → Reason → Type 0
MeansNone s book differs is_cast line why =
    (text : List ℕ) × IsReadAs differs is_cast line text × (entry_in_full s book text ≡ Err why)

-- what is shown of a line: the line itself, if it is text and fits behind `again `
abbrev pub IsTold : List ℕ → Option ArrayString → Type 0
IsTold line text =
    IfSome text (λ t. t.bytes ≡ line) × (IsUtf8 line → length line ≤ 122 → IsSome text)

-- the line comes to this answer and no entry is penned; `differs`: the scorers differed at this place; `is_cast`: the desk has
-- voted in the round
abbrev pub ComesTo : Sheet → List Entry → List Ballot → Bool → Bool → List ℕ → Said → Type 0
ComesTo s book votes differs is_cast line Quit = is_end line ≡ true
ComesTo s book votes differs is_cast line (Asks word) = (word_of line ≡ Some word) × (is_plan word ≡ false)
ComesTo s book votes differs is_cast line (Plan planned) = (word_of line ≡ Some Word.Plan) × IsPlanned s book (behind_plan line) planned
ComesTo s book votes differs is_cast line (Unclear unclear) =
    IsNoWord line × MeansNone s book differs is_cast line (reason_of unclear)
ComesTo s book votes differs is_cast line (SayAgain text) =
    IsNoWord line × (differs ≡ true) × (is_cast ≡ false) × IsNotAgain line × IsTold line text
ComesTo s book votes differs is_cast line NoneDiffers = IsAgainInVain votes differs line
ComesTo s book votes differs is_cast line Waiting =
    (differs ≡ true) × (is_cast ≡ true) × IsNotAgain line × ((e : Entry) × MeansEntry s book line e)
ComesTo s book votes differs is_cast line Withheld = ⊥
ComesTo s book votes differs is_cast line (Refused e why) = ⊥
ComesTo s book votes differs is_cast line (Penned e settled) = ⊥

-- a desk with this sheet is given a scorer's line: it answers so, becomes the desk `l`, and sends these messages
abbrev pub Types :
    {Disk : Type 0} → Sheet → FileView Disk → Rules BookRefusal
    → DeskState Disk → List ℕ → Said → DeskState Disk → List Message → Type 0
Types s view rules k line (Penned e settled) l out =
    SaysEntry s k.book k.votes k.seat.position.round line e × Pens view rules k e (desks.Penned settled) l out
Types s view rules k line (Refused e why) l out =
    SaysEntry s k.book k.votes k.seat.position.round line e × Pens view rules k e (pen_answer (Err why)) l out
Types s view rules k line Withheld l out =
    ((e : Entry) × SaysEntry s k.book k.votes k.seat.position.round line e) × (l ≡ k) × (out ≡ [])
Types s view rules k line said l out =
    ComesTo s k.book k.votes (nat_lt 0 k.seat.position.round) (is_some k.seat.mine) line said × (l ≡ k) × (out ≡ [])
