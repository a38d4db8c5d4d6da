-- Why an innings ended: as the first item that ends it says.
use Rattle.std.proofs.Common.{◌≡◌, ℕ, ◌+◌, true, false, List, Option, Some, None, sym, ◌∙◌, drop}
use Rattle.std.specs.Prelude.{is_some, slice_get}
use Rattle.notation.specs.declared.entry.Cause.{Cause}
use Rattle.page.specs.declared.moments.Moment.{Moment}
use Rattle.corrections.proofs.ListLemmas.{next}
use Rattle.page.specs.Innings.{cause_in, end_in}

pub passed : (i : ℕ) (xs : List Moment) (k : ℕ) (x : Moment) (cause : Option Cause) → slice_get xs k ≡ Some x →
    cause ≡ end_in i x → is_some cause ≡ false → cause_in i (drop k xs) ≡ cause_in i xs → cause_in i (drop (k + 1) xs) ≡ cause_in i xs
passed i xs k x None here is none so_far = rw (← is) at (rw (next xs k x here) at so_far)
passed i xs k x (Some c) here is none so_far = absurd cc

pub found : (i : ℕ) (xs : List Moment) (k : ℕ) (x : Moment) (cause : Option Cause) → slice_get xs k ≡ Some x →
    cause ≡ end_in i x → is_some cause ≡ true → cause_in i (drop k xs) ≡ cause_in i xs → cause ≡ cause_in i xs
found i xs k x None here is some so_far = absurd cc
found i xs k x (Some c) here is some so_far = rw (← is) at (rw (next xs k x here) at so_far)
