-- The claims of progress, at each configuration that a run comes to.
use Rattle.std.proofs.Common.{◌≡◌, ◌⊎◌, ℕ, true, false, List, subst, sym, arith}
use Rattle.notation.specs.Code.{code}
use Rattle.agree_core.specs.declared.{messages.DeskId.DeskId, position.Position.Position}
use Rattle.agree_core.specs.declared.messages.DeskId.TheVariants.{A, B}
use Rattle.agree_core.specs.Ballots.{Ballot, In, Justified, ballot_of, votes_by}
use Rattle.agree_core.specs.LostLines.{is_another, is_in_reach}
use Rattle.agree_core.specs.Positions.{position_of}
use Rattle.agree_core.specs.Seats.{SeatState}
use Rattle.agree_core.specs.Keeping.{MessageFine}
use Rattle.agree_core.specs.Readers.{other}
use Rattle.headline.specs.declared.version.FileVersion.{FileVersion}
use Rattle.headline.specs.Configurations.{Configuration, all_votes}
use Rattle.headline.specs.Runs.{Begins, Moment, Run, last_of}
use Rattle.headline.specs.Setting.{Setting}
use Rattle.headline.proofs.BoardKeeping.{item_at}
use Rattle.headline.proofs.Keeping.{Fine, begins_fine, run_keeps}
use Rattle.headline.proofs.Sound.{justified_other}
use Rattle.progress.specs.CalmMoments.{NotBack}
use Rattle.progress.specs.InStep.{IsBehind}
use Rattle.progress.specs.Progress.{AllInReach, DesksAreNear, HoldsAt, NoneIsAnother, NoVoteFromAhead}
use Rattle.progress.proofs.Another.{not_another}
use Rattle.progress.proofs.Asks.{none_passed_over}
use Rattle.progress.proofs.CaughtUp.{boards_follow}
use Rattle.progress.proofs.Failed.{stays_failed}
use Rattle.progress.proofs.GoneOn.{alike_is_taken, goes_on}
use Rattle.progress.proofs.Near.{never_far, not_from_ahead}
use Rattle.progress.proofs.Possible.{may_hear}
use Rattle.progress.proofs.Settled.{fine_seat, hearing_again_tells, hearing_settles, can_pen_in_step, stays_up}

module _ {Disk Why : Type 0} (s : Setting Disk Why) where
  near : (w : Configuration Disk) → Fine s w → DesksAreNear w
  near w f k l p q =
      let a = fine_seat s w f A k p in
      let b = fine_seat s w f B l q in
      rw (a.1, b.1) (never_far (all_votes w).a (all_votes w).b k.seat l.seat k.book l.book a.0 b.0)

  none_from_ahead : (w : Configuration Disk) → Fine s w → NoVoteFromAhead w
  none_from_ahead w f d k n v runs get by =
      let all = all_votes w in
      let there : In (ballot_of v) (votes_by all (other d)) =
      subst (λ (c : DeskId). In (ballot_of v) (votes_by all c)) by (item_at (MessageFine all) w.sent n _ get f.on_sent) in
      let theirs : Justified (votes_by all d) (votes_by all (other d)) = justified_other s w d f in
      not_from_ahead d (votes_by all d) (votes_by all (other d)) k.seat k.book (ballot_of v) (fine_seat s w f d k runs).0 theirs there

  reached : (s : SeatState) (theirs : List Ballot) (p : Position) → NotBack p s.position ⊎ IsBehind theirs s p → is_in_reach s p ≡ true
  reached s theirs p h3 = grind arith

  all_in_reach : (w : Configuration Disk) → Fine s w → AllInReach w
  all_in_reach w f d k n v runs get by = reached k.seat (votes_by (all_votes w) (other d)) _ (none_from_ahead w f d k n v runs get by)

  none_is_another : (w : Configuration Disk) → Fine s w → NoneIsAnother w
  none_is_another w f entries d k n v runs get by less =
      let all = all_votes w in
      let there : In (ballot_of v) (votes_by all (other d)) =
      subst (λ (c : DeskId). In (ballot_of v) (votes_by all c)) by (item_at (MessageFine all) w.sent n _ get f.on_sent) in
      let theirs : Justified (votes_by all d) (votes_by all (other d)) = justified_other s w d f in
      let g = fine_seat s w f d k runs in
      subst (λ (own : List Ballot). is_another k.seat own (position_of v) (code v.entry) ≡ false) (sym g.1)
      (not_another k.seat (ballot_of v) less d (votes_by all (other d)) (votes_by all d) k.book g.0 theirs there
      (entries (other d) (ballot_of v) there) (entries d))

  pub holds_at : (version : FileVersion) (boards : ℕ) (w : Configuration Disk) (ms : List (Moment Disk Why)) → Begins s version boards w → Run s w ms
      → HoldsAt s (last_of w ms)
  holds_at version boards w ms begins run =
      let now = last_of w ms in
      let fine = run_keeps s w ms (begins_fine s version boards w begins) run in
      record {
        progress = record {
          settles = hearing_settles s now fine;
          can_pen = can_pen_in_step s now fine;
          goes_on = goes_on s now fine;
          alike = alike_is_taken s now fine;
          boards = boards_follow s version boards w ms begins run;
        };
        may_hear = may_hear s now fine;
        tells = hearing_again_tells s now fine;
        near = near now fine;
        none_ahead = none_from_ahead now fine;
        in_reach = all_in_reach now fine;
        none_another = none_is_another now fine;
        none_passed = none_passed_over s version boards w ms begins run;
        stays_up = stays_up s now fine;
        stays_failed = stays_failed s now;
      }
