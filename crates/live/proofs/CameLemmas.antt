-- What is told of a message, as read, is what is told of its bytes.
use Rattle.std.proofs.Common.{◌≡◌, ◌∙◌, ℕ, List, Option, Some, Result, Ok, refl, sym, ap}
use Rattle.notation.specs.declared.entry.Entry.{Entry}
use Rattle.agree_core.specs.declared.{messages.Message.Message, messages.Vote.Vote, seat.Heard.Heard}
use Rattle.agree_core.specs.Desks.{DeskState, Receives, Told}
use Rattle.agree_core.specs.FileView.{FileView}
use Rattle.wire.specs.Layout.{Says}
use Rattle.wire.specs.Reading.{Reads}
use Rattle.wire.proofs.FaultLemmas.{reads_once}
use Rattle.wire.specs.declared.{fault.WireFault.WireFault, what.What.What}
use Rattle.cards.specs.Sheet.{Sheet}
use Rattle.desk.specs.Takes.{Takes}
use Rattle.station_texts.specs.declared.{doubt.Evidence.Evidence, warned.Warned.Warned}
use Rattle.station_texts.specs.Texts.{came_text}
use Rattle.station_texts.specs.ToldValues.{came_told}
use Rattle.live.specs.Desks.{entry_in}
use Rattle.live.proofs.HiddenLemmas.{entry_of_vote}

module _ {Disk : Type 0} (view : FileView Disk) (game : ℕ) (k l : DeskState Disk) where
  -- the entry of a vote that was heard is the one in its bytes
  entry_so : (bytes : List ℕ) (read : Result Message WireFault) (h : Heard) (out : List Message) (other : Option Entry) (m : Message) → Says game bytes m
      → Receives view k m (Told h) l out → Reads game bytes read → ((v : Vote) → read ≡ Ok (Message.Vote v) → other ≡ Some v.entry) → other ≡ entry_in bytes
  entry_so bytes read h out other (Message.Vote v) says r reads e =
      e v (reads_once game bytes read (Ok (Message.Vote v)) reads says) ∙ sym (entry_of_vote game bytes v says)
  entry_so bytes read h out other (Message.Ask q) says r reads e = absurd r

  pub came_so : (bytes : List ℕ) (read : Result Message WireFault) (what : What) (out : List Message) (other : Option Entry) → Takes view game k bytes what l out
      → Reads game bytes read → ((v : Vote) → read ≡ Ok (Message.Vote v) → other ≡ Some v.entry)
      → (sheet : Sheet) (innings place : ℕ) (own : Option Entry) (book : List Entry) (warned : Warned) (evidence : Evidence)
      → came_text sheet innings place own other book warned evidence what ≡ came_text sheet innings place own (entry_in bytes) book warned evidence what
  came_so bytes read (What.Heard h) out other t reads e sheet innings place own book warned evidence =
      ap (λ (o : Option Entry). came_text sheet innings place own o book warned evidence (What.Heard h)) (entry_so bytes read h out other t.0 t.1 t.2 reads e)
  came_so bytes read what out other t reads e sheet innings place own book warned evidence = refl

  pub told_so : (bytes : List ℕ) (read : Result Message WireFault) (what : What) (out : List Message) (other : Option Entry) → Takes view game k bytes what l out
      → Reads game bytes read → ((v : Vote) → read ≡ Ok (Message.Vote v) → other ≡ Some v.entry)
      → (place : ℕ) (own : Option Entry) (warned : Warned) (evidence : Evidence)
      → came_told place own other warned evidence what ≡ came_told place own (entry_in bytes) warned evidence what
  told_so bytes read (What.Heard h) out other t reads e place own warned evidence =
      ap (λ (o : Option Entry). came_told place own o warned evidence (What.Heard h)) (entry_so bytes read h out other t.0 t.1 t.2 reads e)
  told_so bytes read what out other t reads e place own warned evidence = refl
