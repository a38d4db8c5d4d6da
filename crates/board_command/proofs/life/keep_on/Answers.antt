use Rattle.std.proofs.Common.{◌∙◌, ◌∷◌, [], Some, ap, refl, subst, sym}
use Rattle.cards.specs.Sheet.{Sheet}
use Rattle.links.specs.Logs.{passed_of}
use Rattle.live.specs.HearingLogs.{hearings_of}
use Rattle.live.specs.SightLogs.{sights_of}
use Rattle.machine.specs.Screens.{written_of}
use Rattle.seal.specs.declared.carrier.CarriedLog.{CarriedLog}
use Rattle.seal.specs.Carried.{carried_of}
use Rattle.seal.specs.Opening.{opened, passing}
use Rattle.setup.specs.declared.sealing.Sealing.{Sealing}
use Rattle.setup.specs.SheetText.{IsSheetOf}
use Rattle.station_screens.proofs.CarriedLemmas.{carried_so, was_carried}
use Rattle.station_texts.specs.NoticeLogs.{notices_of}
use Rattle.board_command.proofs.HeardLemmas.{hears_so}
use Rattle.board_command.proofs.KeepingLemmas.{lives_so, opened_first}
use Rattle.board_command.specs.Keeping.{IsFresh, entries_in, innings_in}
use Rattle.board_command.proofs.life.keep_on.Goals as goal

pub invariant_of-result-clause-read : goal.invariant_of-result-clause-read
invariant_of-result-clause-read g c =
    ∣ subst (λ (sheet : Sheet). IsSheetOf (c.args.source.text).value.items sheet) (sym c.of.ensures) c.requires.read ∣₁

pub invariant_of-result-clause-sealed : goal.invariant_of-result-clause-sealed
invariant_of-result-clause-sealed g c = ∣ rw (c.of.ensures, c.of-2.ensures) c.requires.sealed ∣₁

pub invariant_of-result-clause-kept : goal.invariant_of-result-clause-kept
invariant_of-result-clause-kept g c =
    let ring = c.link.result.now.ring in
    let said = ap passed_of c.of-3.ensures ∙ c.passed.ensures in
    let below = ap (λ (log : CarriedLog). passing ring (carried_of log)) (c.of-4.ensures ∙ c.passed-2.ensures) in
    let kept = c.keep_board-ended in
    let began = ap (λ (s : Sealing). opened s.ring ∷ []) c.of-2.ensures ∙ sym c.requires.opened in
    let lives = lives_so c.of.ensures began said
    (ap Some (sym c.requires.untold)) (ap Some (c.written.ensures ∙ ap written_of c.into_inner.ensures))
    (sym c.requires.unnoticed) (ap notices_of (c.of-5.ensures ∙ c.log.ensures))
    refl (ap (sights_of entries_in innings_in) c.of-6.ensures)
    kept.ensures.lives in
    let first = opened_first lives in
    ∣ record {
      begun = c.args.board;
      last = kept.new.board;
      before = _;
      after = _;
      turns = _;
      fresh = subst (λ (sheet : Sheet). IsFresh sheet c.args.board) (sym c.of.ensures) c.requires.fresh;
      carried = carried_so ring c.of-2.result.value.ring first.1 first.2
          (was_carried _ ring said (below ∙ rw c.carrier.ensures c.link.ensures.log) c.link.ensures.faithful);
      lives = lives;
      hears = hears_so (ap (λ (sheet : Sheet). sheet.game) c.of.ensures ∙ sym c.requires.fresh.game) began said
          (sym c.requires.unheard) (ap hearings_of c.of-7.ensures ∙ sym kept.new.scoreboard.state.told) kept.ensures.hears;
    } ∣₁
