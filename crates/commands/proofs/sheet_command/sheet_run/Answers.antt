use Rattle.std.proofs.Common.{◌≡◌, ◌≢◌, List, Option, Result, Ok, Err, IsErrAnd, ap, sym, ◌∙◌, inl, inr}
use Rattle.streams.specs.declared.watched.Watched.{Watched}
use Rattle.streams.specs.Calls.{Call}
use Rattle.setup.specs.Ends.{EndsWriting}
use Rattle.commands.proofs.sheet_command.sheet_run.Goals as goal
use Rattle.commands.proofs.sheet_command.sheet_run.Goals.{in_default-via-in-Ok+else-is_nothing, in_default-via-in-Err+else-is_no_memory}
use Rattle.cards.specs.declared.fault.SheetFault.{SheetFault}

pub returns-in-Ok-clause-written : goal.returns-in-Ok-clause-written
returns-in-Ok-clause-written g c =
    let told = rw (sym c.as_str-told.ensures.value ∙ c.is_nothing.ensures.nothing c.if-is_nothing.true) at c.in_ok-report.ensures in
    (told, (c.in-Ok.sheet, (c.in-Ok.ensures (λ e. cc), c.in_ok-print_sheet-in-Ok.ensures.text)))

abbrev fault_or : {A : Type 0} → SheetFault → Result A SheetFault → SheetFault
fault_or fault (Ok value) = fault
fault_or fault (Err why) = why

-- two faults that differ are errors that differ
apart : {A : Type 0} {why met : SheetFault} → why ≢ met → ◌≢◌ {A = Result A SheetFault} (Err why) (Err met)
apart {met = met} differ e = differ (ap (fault_or met) e)

-- something is wrong where the sheet is refused, or its report isn't empty
pub returns-clause-written : goal.returns-clause-written
returns-clause-written g c = (
  c.as_str-told.result.now,
  (
    rw (sym c.as_str-told.ensures.value) at c.in_ok-report.ensures,
    (
      elim c.in_default.branch [
        | in_default-via-in-Ok+else-is_nothing w ↦ inl (w.is_nothing.ensures.something w.if-is_nothing.false)
        | in_default-via-in-Err+else-is_no_memory w ↦
            inr (w.in-Err.why, w.in-Err.ensures (apart (w.is_no_memory.ensures.fault w.if-is_no_memory.false)))
      ],
      c.in_ok-printed-in_default.ensures.text,
    ),
  ),
)

-- a fault that is passed on ends the caller as it ended the callee
failed : {S T U E : Type 0} (calls : S → Option (List Call)) (fault : E) (result : Result T E) (why : E) (old new : Watched S)
    → IsErrAnd result (λ e. e ≡ why) → EndsWriting {T = U} calls fault (Err why) old new → EndsWriting calls fault result old new
failed calls fault (Ok value) why old new e was = absurd e
failed calls fault (Err met) why old new e was =
    rw e (record { write = λ i. was.write (cc); sound = tt; handed_on = tt; unwritten = was.unwritten })

pub returns-in_err-print_sheet-in-Ok-clause-writes : goal.returns-in_err-print_sheet-in-Ok-clause-writes
returns-in_err-print_sheet-in-Ok-clause-writes g c =
    failed _ _ c.from_residual-in_err-print_sheet-in-Ok.result c.in_err-print_sheet-in-Ok.field-0.0 _ _
    c.from_residual-in_err-print_sheet-in-Ok.ensures.1 c.in_err-print_sheet-in-Ok.ensures.writes
