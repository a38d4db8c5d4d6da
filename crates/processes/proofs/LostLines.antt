-- No message of a station shows that a desk's file lacks lines.
use Rattle.std.proofs.Common.{arith, ◌≡◌, ℕ, Bool, false, List, refl, sym, ap, ◌∙◌, subst}
use Rattle.std.specs.Prelude.{◌&&◌, if◌then◌else◌}
use Rattle.corrections.specs.declared.refusal.Refusal.{Refusal}
use Rattle.agree_core.specs.declared.{messages.DeskId.DeskId, messages.Message.Message, messages.Vote.Vote, position.Position.Position, seat.Heard.Heard}
use Rattle.agree_core.specs.Desks.{DeskState}
use Rattle.agree_core.specs.LostLines.{is_another, is_in_reach, is_passed_over}
use Rattle.agree_core.specs.Positions.{position_of}
use Rattle.agree_core.specs.Readers.{other}
use Rattle.desk.specs.Takes.{Takes}
use Rattle.wire.specs.declared.what.What.{What}
use Rattle.wire.specs.Layout.{Says, body_in, is_at as message_at}
use Rattle.wire.proofs.MessageLemmas.{code_in}
use Rattle.notation.specs.Code.{code}
use Rattle.agree_core.specs.Ballots.{Ballot, In, ballot_of, votes_by}
use Rattle.headline.specs.Configurations.{Configuration, Running, all_votes, node}
use Rattle.headline.specs.Setting.{Setting}
use Rattle.headline.proofs.Given.{given_fine, given_vote}
use Rattle.headline.proofs.Keeping.{Fine}
use Rattle.progress.specs.Progress.{AllAreEntries, HoldsAt}
use Rattle.progress.proofs.CalmSteps.{one_process}
use Rattle.progress.proofs.Settled.{fine_seat}
use Rattle.live.specs.Desks as desks
use Rattle.live.specs.Desks.{shown_by}
use Rattle.live.specs.LostLines.{asker_in, bearing_of, is_other, is_unkept, position_in}
use Rattle.station_texts.specs.Doubts.{is_loss}
use Rattle.station_texts.specs.declared.doubt.Evidence.TheVariants.{Nothing, OtherLacks, Ahead, Unkept, Level}
use Rattle.live.proofs.LostLemmas.{position_of_message}
use Rattle.processes.specs.Happenings.{DeskCalled, Happening, Happens, WasSent}
use Rattle.processes.specs.LostLines.{AskWasHandedOut, ShowsNoLoss}
use Rattle.processes.proofs.OwnVotes.{kept}

-- whether or not the other desk is at this one's position, that shows no lost line
level_so : (level : Bool) → is_loss (if level then Level else Nothing) ≡ false
level_so level = grind arith

not_own : (c d : DeskId) → (c ≡ d → ⊥) → c ≡ other d
not_own c d n = grind arith

module _ {Disk : Type 0} (s : Setting Disk Refusal) (game innings : ℕ) where
  -- in a configuration that a run comes to
  module _ (v : Configuration Disk) (holds : HoldsAt s v) (fine : Fine s v) where
    by_other : (d : DeskId) (k : DeskState Disk) (w : Vote) → (node v d).process ≡ Running k → (w.desk ≡ k.seat.desk → ⊥) → w.desk ≡ other d
    by_other d k w runs n = not_own w.desk d (λ same. n (same ∙ sym (fine_seat s v fine d k runs).0.desk))

    module _ (entries : AllAreEntries (all_votes v)) (d : DeskId) (k l : DeskState Disk) (bytes : List ℕ) (out : List Message)
        (runs : (node v d).process ≡ Running k) (came : WasSent game v.sent bytes) (made : AskWasHandedOut game v.sent bytes) where
      here : (m : Message) → Says game bytes m → position_in bytes ≡ message_at m
      here m says = position_of_message game bytes m says

      no_loss : (what : What) → Takes (s.view d (node v d).version) game k bytes what l out → is_loss (shown_by k bytes what) ≡ false
      no_loss (What.Heard Heard.Old) (Message.Ask q, says, r) = absurd r
      no_loss (What.Heard Heard.Old) (Message.Vote w, says, r) =
          let found = came (Message.Vote w) says in
          let sent = given_vote v.sent found.0 w found.1 in
          let another = ap (λ (p : Position). is_another k.seat k.votes p (body_in bytes)) (here (Message.Vote w) says)
          ∙ ap (is_another k.seat k.votes (position_of w)) (code_in game bytes w says)
          ∙ holds.none_another entries d k found.0 w runs sent (by_other d k w runs r.1.0) r.1.1 in
          ap (λ (x : Bool). is_loss (if x then OtherLacks else Nothing)) another
      no_loss (What.Heard Heard.Ahead) (Message.Ask q, says, r) = absurd r
      no_loss (What.Heard Heard.Ahead) (Message.Vote w, says, r) =
          let found = came (Message.Vote w) says in
          let reach = holds.in_reach d k found.0 w runs (given_vote v.sent found.0 w found.1) (by_other d k w runs r.1.0) in
          ap (λ (x : Bool). is_loss (if x then Nothing else Ahead)) (ap (is_in_reach k.seat) (here (Message.Vote w) says) ∙ reach)
      no_loss (What.Heard Heard.Mine) (Message.Ask q, says, r) = absurd r
      no_loss (What.Heard Heard.Mine) (Message.Vote w, says, r) =
          let found = came (Message.Vote w) says in
          let seat = fine_seat s v fine d k runs in
          let voted : In (ballot_of w) (votes_by (all_votes v) w.desk) = given_fine (all_votes v) v.sent found.0 (Message.Vote w) fine.on_sent found.1 in
          let has : In (ballot_of w) (votes_by (all_votes v) d) = subst (λ (c : DeskId). In (ballot_of w) (votes_by (all_votes v) c)) (r.1.0 ∙ seat.0.desk) voted in
          let unkept = ap (λ (p : Position). is_unkept k.seat k.votes p (body_in bytes)) (here (Message.Vote w) says)
          ∙ ap (is_unkept k.seat k.votes (position_of w)) (code_in game bytes w says)
          ∙ ap (λ (own : List Ballot). is_unkept k.seat own (position_of w) (code w.entry)) seat.1
          ∙ kept (votes_by (all_votes v) (other d)) (ballot_of w) d (votes_by (all_votes v) d) k.seat k.book seat.0 has in
          ap (λ (x : Bool). is_loss (if x then Unkept else Nothing)) unkept
      no_loss What.Asked (Message.Vote w, says, r) = absurd r
      no_loss What.Asked (Message.Ask q, says, r) =
          let found = made q says in
          let never = ap (is_passed_over k.seat k.votes) (here (Message.Ask q) says) ∙ holds.none_passed d k found.0 q runs found.1 in
          let passed = ap (λ (x : Bool). x && is_other k.seat.desk (asker_in bytes)) never in
          let level = (bearing_of k.seat k.votes bytes).is_level in
          ap (λ (x : Bool). is_loss (if x then OtherLacks else (if level then Level else Nothing))) passed ∙ level_so level
      no_loss _ t = refl

    pub shows_none : AllAreEntries (all_votes v) → (what : Happening Disk) → Happens s.view game innings v what → ShowsNoLoss game v what
    shows_none entries (DeskCalled d sheet (desks.Given bytes what) out l text) h = λ k runs made.
        let step = subst (λ (x : DeskState Disk). Takes (s.view d (node v d).version) game x bytes what l out) (one_process (node v d) h.0 k h.1 runs) h.3 in
        no_loss entries d k l bytes out runs h.2 made what step
    shows_none entries _ h = tt
