use Rattle.std.proofs.Common.{◌≡◌, ◌++◌, ◌∙◌, ℕ, List, OnOk, ap, subst, sym}
use Rattle.ahead.proofs.OrderLemmas.{casts_in_order}
use Rattle.cards.specs.Sheet.{Sheet}
use Rattle.links.specs.Logs.{passed_of}
use Rattle.machine.specs.Screens.{text_of}
use Rattle.screen.specs.Telling.{tellings_of}
use Rattle.seal.specs.Carried.{carried_of}
use Rattle.links.specs.Passed.{Passed}
use Rattle.setup.specs.Carried.{WasCarried}
use Rattle.station_screens.proofs.CarriedLemmas.{carried_so}
use Rattle.setup.specs.declared.sealing.Sealing.{Sealing}
use Rattle.desk_command.proofs.KeepingLemmas.{lives_so, opened_first}
use Rattle.desk_command.specs.Ends.{last_told}
use Rattle.desk_command.specs.Traces.{IsWideSheetOf}
use Rattle.desk_command.proofs.life.keep_on.Goals as goal

pub invariant_of-life-clause-read : goal.invariant_of-life-clause-read
invariant_of-life-clause-read g c =
    ∣ subst (λ (sheet : Sheet). IsWideSheetOf (c.args.source.text).value.items sheet) (sym c.of.ensures) c.requires.read ∣₁

pub invariant_of-life-clause-sealed : goal.invariant_of-life-clause-sealed
invariant_of-life-clause-sealed g c = ∣ rw (c.of.ensures, c.of-2.ensures) c.requires.sealed ∣₁

pub invariant_of-life-clause-kept : goal.invariant_of-life-clause-kept
invariant_of-life-clause-kept g c =
    let ahead = c.keep-ended.new.outside.keys in
    let said = ap passed_of c.of-6.ensures ∙ c.passed.ensures in
    let screen = c.end_screen-screen in
    let lives = c.keep-ended.ensures c.args.sealing.now.ring c.requires.opened in
    let first = opened_first lives in
    ∣ record {
      disk = c.args.beginning.disk;
      log = (ahead.queue).log;
      on = c.requires.on;
      of_typed = rw (c.of-3.ensures, c.given.ensures, c.keys-3.ensures, screen.ensures.keys) ahead.typed;
      in_order = casts_in_order _ (ahead.queue).ordered;
      carried = rw (c.of-2.ensures, c.of-7.ensures) (carried_so c.carried.ensures.0 _ (said ∙ first.1) first.2
          (subst (λ (l : List Passed). WasCarried c.carried.ensures.0 l (carried_of c.carried.result.now)) (sym said) c.carried.ensures.1));
      lives = lives_so c.of.ensures (ap (λ (s : Sealing). s.ring) c.of-2.ensures) said (sym screen.ensures.told) (ap tellings_of (c.of-8.ensures ∙ c.log.ensures)) lives;
      dropped = subst (λ (columns : ℕ). OnOk screen.result.last (text_of screen.result.written ≡ text_of screen.result.told ++ last_told c.keep-ended.result columns (ahead.queue).log))
          (c.columns.ensures.value ∙ ap (λ (sheet : Sheet). sheet.columns) (sym c.of.ensures)) screen.ensures.last;
    } ∣₁
