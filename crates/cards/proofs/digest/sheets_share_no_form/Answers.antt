use Rattle.std.proofs.Common.{refl}
use Rattle.cards.proofs.SheetForms.{same_sheet}
use Rattle.cards.proofs.digest.sheets_share_no_form.Goals as goal

pub returns-clause-one : goal.returns-clause-one
returns-clause-one c = same_sheet

pub returns-clause-width : goal.returns-clause-width
returns-clause-width c = λ s n. refl
