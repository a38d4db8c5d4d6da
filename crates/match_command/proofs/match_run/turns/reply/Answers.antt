use Rattle.std.proofs.Common.{arith, sym}
use Rattle.cards.specs.Sheet.{plain_sheet}
use Rattle.match_command.proofs.TurnLemmas.{given}
use Rattle.match_command.proofs.match_run.turns.reply.Goals as goal

pub returns-in-Ok-clause-disk : goal.returns-in-Ok-clause-disk
returns-in-Ok-clause-disk g c = record { owner = (c.give-what.ensures.calls (plain_sheet 0 1)).same; disk = c.give-what.ensures.reads }

pub returns-in-Err-clause-disk : goal.returns-in-Err-clause-disk
returns-in-Err-clause-disk g c = record { owner = (c.give-what.ensures.calls (plain_sheet 0 1)).same; disk = c.give-what.ensures.reads }

pub returns-in-Ok-clause-kept : goal.returns-in-Ok-clause-kept
returns-in-Ok-clause-kept g c =
    (given c.args.desk.now c.give-what.new.desk c.args.bytes.now c.give-what.result _ _ c.give-what.ensures.calls (sym c.in-Ok.ensures)).0

pub returns-in-Ok-clause-online : goal.returns-in-Ok-clause-online
returns-in-Ok-clause-online g c =
    (given c.args.desk.now c.give-what.new.desk c.args.bytes.now c.give-what.result _ _ c.give-what.ensures.calls (sym c.in-Ok.ensures)).1

pub returns-in-Err-clause-calm : goal.returns-in-Err-clause-calm
returns-in-Err-clause-calm g c = λ calm device.
    ((c.give-what.ensures.calls (plain_sheet 0 1)).blame calm.running).calm calm.never calm.room (grind (arith, c.in-Err.ensures))
