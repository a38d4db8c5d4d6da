use Rattle.std.proofs.Common.{◌≡◌, ℕ, List, Option, Some, None, Result, Err, sym, subst}
use Rattle.std.specs.Prelude.{IfSome}
use Rattle.cards.specs.Sheet.{Sheet}
use Rattle.cards.specs.Reading.{IsReading}
use Rattle.cards.specs.declared.fault.SheetFault.{SheetFault}
use Rattle.streams.specs.Watched.{stream_of}
use Rattle.setup.specs.declared.fault.StopFault.{StopFault}
use Rattle.setup.specs.Fault.{of_sheet}
use Rattle.setup.specs.SheetText.{Tells}
use Rattle.setup.proofs.sheet.sheet_run.Goals as goal

-- what the bytes of a refused sheet are read as, unless memory ran out
abbrev IsRead : List ℕ → SheetFault → Type 0
IsRead bytes why = (◌≡◌ {A = Result Sheet SheetFault} (Err why) (Err SheetFault.NoMemory) → ⊥) → IsReading bytes (Err why)

tells : (bytes : List ℕ) (why : SheetFault) → IsRead bytes why → Tells bytes (Err (of_sheet why))
tells bytes SheetFault.NoMemory read = tt
tells bytes SheetFault.NotToml read = read (λ e. cc)
tells bytes SheetFault.MissingKey read = read (λ e. cc)
tells bytes SheetFault.WrongKind read = read (λ e. cc)
tells bytes SheetFault.BadText read = read (λ e. cc)
tells bytes SheetFault.BadNumber read = read (λ e. cc)
tells bytes SheetFault.NotEleven read = read (λ e. cc)

of_file : (o : Option (List ℕ)) (items : List ℕ) (fault : StopFault) → Tells items (Err fault) → IfSome o (λ bytes. items ≡ bytes) → IfSome o (λ bytes. Tells bytes (Err fault))
of_file None items fault told whole = tt
of_file (Some bytes) items fault told whole = subst (λ (b : List ℕ). Tells b (Err fault)) whole told

pub returns-clause-told : goal.returns-clause-told
returns-clause-told g c =
    let items = c.in_ok-text.text.items in
    let read = subst (λ (i : List ℕ). IsRead i c.in-Err.why) c.as_slice.ensures.value c.in-Err.ensures in
    let told = subst (λ (f : StopFault). Tells items (Err f)) (sym c.from.ensures) (tells items c.in-Err.why read) in
    of_file (g.R.Feed.remaining (stream_of c.args.reader.now)) items c.from.result told c.in_ok-text.ensures.whole
