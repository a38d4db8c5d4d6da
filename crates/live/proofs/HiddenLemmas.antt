-- What a scorer can't see.
use Rattle.std.proofs.Common.{◌≡◌, ◌≢◌, ◌⊎◌, ◌∷◌, [], ℕ, List, Option, Some, arith, refl, ap, ◌∙◌, inl, inr}
use Rattle.notation.specs.declared.entry.Entry.{Entry}
use Rattle.agree_core.specs.declared.{messages.Message.Message, messages.Vote.Vote, position.Position.Position, seat.Heard.Heard}
use Rattle.agree_core.specs.FileView.{FileView}
use Rattle.agree_core.specs.Positions.{Before}
use Rattle.vote_store.specs.Record.{entry_coded}
use Rattle.vote_store.proofs.RecordLemmas.{entry_coded-code}
use Rattle.wire.specs.Layout.{Says}
use Rattle.wire.proofs.MessageLemmas.{code_in}
use Rattle.live.specs.Desks.{entry_in}
use Rattle.live.specs.Hidden.{HidesTheOther, TellsBoth}
use Rattle.live.specs.LostLines.{bearing_of, evidence_of}
use Rattle.live.specs.declared.lost_lines.Bearing.{Bearing}
use Rattle.screen.specs.declared.told.Told.TheVariants.{Differs}
use Rattle.station_texts.specs.declared.doubt.Evidence.TheVariants.{Nothing}
use Rattle.wire.specs.declared.what.What.{What}
use Rattle.station_texts.specs.Texts.{differs_text}

not_before : (p q : Position) → p ≡ q → Before p q → ⊥
not_before p q e b = grind arith

-- the answers by which a datagram shows anything of the files
evidence_by : (b : Bearing) (what : What) → evidence_of b what ≢ Nothing
    → (what ≡ What.Asked) ⊎ ((what ≡ What.Heard Heard.Old) ⊎ ((what ≡ What.Heard Heard.Ahead) ⊎ (what ≡ What.Heard Heard.Mine)))
evidence_by b What.Asked n = inl refl
evidence_by b (What.Heard Heard.Old) n = inr (inl refl)
evidence_by b (What.Heard Heard.Ahead) n = inr (inr (inl refl))
evidence_by b (What.Heard Heard.Mine) n = inr (inr (inr refl))
evidence_by b what n = absurd (n refl)

pub hides_the_other : {Disk : Type 0} (view : FileView Disk) → HidesTheOther view
hides_the_other view = record {
  answer = λ s t v h mine theirs now hears. grind (arith, not_before);
  silent = λ sheet innings k l bytes. refl;
  bytes = λ sheet innings k l one other what n same. grind arith;
  evidence = λ k bytes what is. evidence_by (bearing_of k.seat k.votes bytes) what is;
  cast = λ s t v h none. cc (none, h.2.1);
  noted = λ sheet innings k l call e f n w. grind arith;
  whether = λ sheet innings k l call e f o p n. grind arith;
  no_value = λ k bytes. refl;
  value_of_bytes = λ k one other what n same. grind arith;
  value_of_noted = λ k call e n. grind arith;
  shown = λ sheet innings k e. refl;
  told = λ k reminder e f may. grind arith;
  stored = λ rules k l own out h. h.1.4;
}

-- the entry of a vote is the one in its bytes
pub entry_of_vote : (game : ℕ) (bytes : List ℕ) (v : Vote) → Says game bytes (Message.Vote v) → entry_in bytes ≡ Some v.entry
entry_of_vote game bytes v s = ap entry_coded (code_in game bytes v s) ∙ entry_coded-code v.entry s.0.1

pub tells_both : (Disk : Type 0) → TellsBoth Disk
tells_both Disk = record {
  penned = λ sheet innings k l line own other noted. ap (differs_text k.desk.seat.position.place (Some own)) noted;
  came = λ sheet innings game k l bytes v own mine says.
      ap (λ (one : Option Entry). differs_text k.desk.seat.position.place one (entry_in bytes)) mine
      ∙ ap (differs_text k.desk.seat.position.place (Some own)) (entry_of_vote game bytes v says);
  penned_value = λ k line own other noted. ap (λ (o : Option Entry). Differs k.desk.seat.position.place (Some own) o ∷ []) noted;
  came_value = λ game k bytes v own mine says.
      ap (λ (one : Option Entry). Differs k.desk.seat.position.place one (entry_in bytes) ∷ []) mine
      ∙ ap (λ (o : Option Entry). Differs k.desk.seat.position.place (Some own) o ∷ []) (entry_of_vote game bytes v says);
}
